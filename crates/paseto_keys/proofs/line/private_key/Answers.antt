use Rattle.std.proofs.Common.{refl}
use Rattle.std.proofs.lemmas.Result.{err_from_is_err_and}
use Rattle.rusty_paseto_paserk.specs.declared.header.PaserkType.TheVariants.{Secret}
use Rattle.rusty_paseto_paserk.specs.declared.header.PaserkVersion.TheVariants.{V1, V2, V3, V4}
use Rattle.paseto_keys.specs.Line.{IsPaserkFaultOf, IsPaserkOf}
use Rattle.paseto_keys.specs.declared.any_key.AnyKey.TheVariants.{V1Secret, V2Secret, V3Secret, V4Secret}
use Rattle.paseto_keys.proofs.LineLaws.{key_read, key_refused}
use Rattle.paseto_keys.proofs.line.private_key.Goals as goal

pub returns-in_err-rsa_private_of-in-V1 : goal.returns-in_err-rsa_private_of-in-V1
returns-in_err-rsa_private_of-in-V1 c =
    let p = err_from_is_err_and c.from_residual.result c.from_residual.ensures.1 in
    rw (c.in-V1.is, p.1, p.2) (key_refused Secret V1 (IsPaserkOf Secret V1) (IsPaserkFaultOf Secret V1) c.args.line.now c.in_err-rsa_private_of-in-V1.field-0.0 c.in_err-rsa_private_of-in-V1.ensures)

pub returns-in_ok-rsa_private_of-in-V1 : goal.returns-in_ok-rsa_private_of-in-V1
returns-in_ok-rsa_private_of-in-V1 c =
    let key = c.in_ok-rsa_private_of-in-V1.field-0 in
    rw c.in-V1.is (key_read Secret V1 (IsPaserkOf Secret V1) (IsPaserkFaultOf Secret V1) c.args.line.now key (V1Secret key) refl c.in_ok-rsa_private_of-in-V1.ensures)

pub returns-in_err-private_of-in-V2 : goal.returns-in_err-private_of-in-V2
returns-in_err-private_of-in-V2 c =
    let p = err_from_is_err_and c.from_residual-in_err-private_of-in-V2.result c.from_residual-in_err-private_of-in-V2.ensures.1 in
    rw (c.in-V2.is, p.1, p.2) (key_refused Secret V2 (IsPaserkOf Secret V2) (IsPaserkFaultOf Secret V2) c.args.line.now c.in_err-private_of-in-V2.field-0.0 c.in_err-private_of-in-V2.ensures)

pub returns-in_ok-private_of-in-V2 : goal.returns-in_ok-private_of-in-V2
returns-in_ok-private_of-in-V2 c =
    let key = c.in_ok-private_of-in-V2.field-0 in
    rw c.in-V2.is (key_read Secret V2 (IsPaserkOf Secret V2) (IsPaserkFaultOf Secret V2) c.args.line.now key (V2Secret key) refl c.in_ok-private_of-in-V2.ensures)

pub returns-in_err-private_of-in-V3 : goal.returns-in_err-private_of-in-V3
returns-in_err-private_of-in-V3 c =
    let p = err_from_is_err_and c.from_residual-in_err-private_of-in-V3.result c.from_residual-in_err-private_of-in-V3.ensures.1 in
    rw (c.in-V3.is, p.1, p.2) (key_refused Secret V3 (IsPaserkOf Secret V3) (IsPaserkFaultOf Secret V3) c.args.line.now c.in_err-private_of-in-V3.field-0.0 c.in_err-private_of-in-V3.ensures)

pub returns-in_ok-private_of-in-V3 : goal.returns-in_ok-private_of-in-V3
returns-in_ok-private_of-in-V3 c =
    let key = c.in_ok-private_of-in-V3.field-0 in
    rw c.in-V3.is (key_read Secret V3 (IsPaserkOf Secret V3) (IsPaserkFaultOf Secret V3) c.args.line.now key (V3Secret key) refl c.in_ok-private_of-in-V3.ensures)

pub returns-in_err-private_of-in-V4 : goal.returns-in_err-private_of-in-V4
returns-in_err-private_of-in-V4 c =
    let p = err_from_is_err_and c.from_residual-in_err-private_of-in-V4.result c.from_residual-in_err-private_of-in-V4.ensures.1 in
    rw (c.in-V4.is, p.1, p.2) (key_refused Secret V4 (IsPaserkOf Secret V4) (IsPaserkFaultOf Secret V4) c.args.line.now c.in_err-private_of-in-V4.field-0.0 c.in_err-private_of-in-V4.ensures)

pub returns-in_ok-private_of-in-V4 : goal.returns-in_ok-private_of-in-V4
returns-in_ok-private_of-in-V4 c =
    let key = c.in_ok-private_of-in-V4.field-0 in
    rw c.in-V4.is (key_read Secret V4 (IsPaserkOf Secret V4) (IsPaserkFaultOf Secret V4) c.args.line.now key (V4Secret key) refl c.in_ok-private_of-in-V4.ensures)
