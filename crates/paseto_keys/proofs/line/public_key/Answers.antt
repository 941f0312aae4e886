use Rattle.std.proofs.Common.{refl}
use Rattle.std.proofs.lemmas.Result.{err_from_is_err_and}
use Rattle.rusty_paseto_paserk.specs.declared.header.PaserkType.TheVariants.{Public}
use Rattle.rusty_paseto_paserk.specs.declared.header.PaserkVersion.TheVariants.{V1, V2, V3, V4}
use Rattle.paseto_keys.specs.Line.{IsPaserkFaultOf, IsPaserkOf}
use Rattle.paseto_keys.specs.declared.any_key.AnyKey.TheVariants.{V1Public, V2Public, V3Public, V4Public}
use Rattle.paseto_keys.proofs.LineLaws.{key_read, key_refused}
use Rattle.paseto_keys.proofs.line.public_key.Goals as goal

pub returns-in_err-rsa_public_of-in-V1 : goal.returns-in_err-rsa_public_of-in-V1
returns-in_err-rsa_public_of-in-V1 c =
    let p = err_from_is_err_and c.from_residual.result c.from_residual.ensures.1 in
    rw (c.in-V1.is, p.1, p.2) (key_refused Public V1 (IsPaserkOf Public V1) (IsPaserkFaultOf Public V1) c.args.line.now c.in_err-rsa_public_of-in-V1.field-0.0 c.in_err-rsa_public_of-in-V1.ensures)

pub returns-in_ok-rsa_public_of-in-V1 : goal.returns-in_ok-rsa_public_of-in-V1
returns-in_ok-rsa_public_of-in-V1 c =
    let key = c.in_ok-rsa_public_of-in-V1.field-0 in
    rw c.in-V1.is (key_read Public V1 (IsPaserkOf Public V1) (IsPaserkFaultOf Public V1) c.args.line.now key (V1Public key) refl c.in_ok-rsa_public_of-in-V1.ensures)

pub returns-in_err-public_of-in-V2 : goal.returns-in_err-public_of-in-V2
returns-in_err-public_of-in-V2 c =
    let p = err_from_is_err_and c.from_residual-in_err-public_of-in-V2.result c.from_residual-in_err-public_of-in-V2.ensures.1 in
    rw (c.in-V2.is, p.1, p.2) (key_refused Public V2 (IsPaserkOf Public V2) (IsPaserkFaultOf Public V2) c.args.line.now c.in_err-public_of-in-V2.field-0.0 c.in_err-public_of-in-V2.ensures)

pub returns-in_ok-public_of-in-V2 : goal.returns-in_ok-public_of-in-V2
returns-in_ok-public_of-in-V2 c =
    let key = c.in_ok-public_of-in-V2.field-0 in
    rw c.in-V2.is (key_read Public V2 (IsPaserkOf Public V2) (IsPaserkFaultOf Public V2) c.args.line.now key (V2Public key) refl c.in_ok-public_of-in-V2.ensures)

pub returns-in_err-public_of-in-V3 : goal.returns-in_err-public_of-in-V3
returns-in_err-public_of-in-V3 c =
    let p = err_from_is_err_and c.from_residual-in_err-public_of-in-V3.result c.from_residual-in_err-public_of-in-V3.ensures.1 in
    rw (c.in-V3.is, p.1, p.2) (key_refused Public V3 (IsPaserkOf Public V3) (IsPaserkFaultOf Public V3) c.args.line.now c.in_err-public_of-in-V3.field-0.0 c.in_err-public_of-in-V3.ensures)

pub returns-in_ok-public_of-in-V3 : goal.returns-in_ok-public_of-in-V3
returns-in_ok-public_of-in-V3 c =
    let key = c.in_ok-public_of-in-V3.field-0 in
    rw c.in-V3.is (key_read Public V3 (IsPaserkOf Public V3) (IsPaserkFaultOf Public V3) c.args.line.now key (V3Public key) refl c.in_ok-public_of-in-V3.ensures)

pub returns-in_err-public_of-in-V4 : goal.returns-in_err-public_of-in-V4
returns-in_err-public_of-in-V4 c =
    let p = err_from_is_err_and c.from_residual-in_err-public_of-in-V4.result c.from_residual-in_err-public_of-in-V4.ensures.1 in
    rw (c.in-V4.is, p.1, p.2) (key_refused Public V4 (IsPaserkOf Public V4) (IsPaserkFaultOf Public V4) c.args.line.now c.in_err-public_of-in-V4.field-0.0 c.in_err-public_of-in-V4.ensures)

pub returns-in_ok-public_of-in-V4 : goal.returns-in_ok-public_of-in-V4
returns-in_ok-public_of-in-V4 c =
    let key = c.in_ok-public_of-in-V4.field-0 in
    rw c.in-V4.is (key_read Public V4 (IsPaserkOf Public V4) (IsPaserkFaultOf Public V4) c.args.line.now key (V4Public key) refl c.in_ok-public_of-in-V4.ensures)
