use Rattle.paseto_wrapping.specs.declared.header.WrappedType.TheVariants.{LocalWrap, SecretWrap, LocalPassword, SecretPassword, Seal}
use Rattle.paseto_wrapping.proofs.header.WrappedType.strip.Goals as goal

pub returns-in_default-after-4-clause-none : goal.returns-in_default-after-4-clause-none
returns-in_default-after-4-clause-none c _ LocalWrap rest = c.in_default.ensures rest
returns-in_default-after-4-clause-none c _ SecretWrap rest = c.in_default-after.ensures rest
returns-in_default-after-4-clause-none c _ LocalPassword rest = c.in_default-after-2.ensures rest
returns-in_default-after-4-clause-none c _ SecretPassword rest = c.in_default-after-3.ensures rest
returns-in_default-after-4-clause-none c _ Seal rest = c.in_default-after-4.ensures rest
