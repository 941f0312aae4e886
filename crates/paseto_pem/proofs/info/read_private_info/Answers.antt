use Rattle.paseto_pem.proofs.InfoLaws.{info-first, info-fourth, info-made, info-second, info-third}
use Rattle.paseto_pem.proofs.info.read_private_info.Goals as goal

pub returns-in_err-version : goal.returns-in_err-version
returns-in_err-version c =
    rw c.from_residual-in_err-version.ensures
    (λ algorithm key public p.
    c.in_err-version.ensures _ _ (info-first algorithm key c.args.octets.now c.in_ok-contents.contents.now public p c.in_ok-contents.ensures))

pub returns-in_err-algorithm : goal.returns-in_err-algorithm
returns-in_err-algorithm c =
    rw c.from_residual-in_err-algorithm.ensures
    (λ algorithm key public p.
    let version = c.in_ok-version.version in
    c.in_err-algorithm.ensures _ _
    (info-second algorithm key c.args.octets.now c.in_ok-contents.contents.now public p c.in_ok-contents.ensures
    version.contents.now version.behind.now c.in_ok-version.ensures).1)

pub returns-in_err-key : goal.returns-in_err-key
returns-in_err-key c =
    rw c.from_residual-in_err-key.ensures
    (λ algorithm key public p.
    let version = c.in_ok-version.version in
    let found = c.in_ok-algorithm.algorithm in
    c.in_err-key.ensures _ _
    (info-third algorithm key c.args.octets.now c.in_ok-contents.contents.now public p c.in_ok-contents.ensures
    version.contents.now version.behind.now c.in_ok-version.ensures found.contents.now found.behind.now c.in_ok-algorithm.ensures).1)

pub returns-in_err-public : goal.returns-in_err-public
returns-in_err-public c =
    rw c.from_residual-in_err-public.ensures
    (λ algorithm key public p.
    let version = c.in_ok-version.version in
    let found = c.in_ok-algorithm.algorithm in
    let own = c.in_ok-key.key in
    let second = info-second algorithm key c.args.octets.now c.in_ok-contents.contents.now public p c.in_ok-contents.ensures
    version.contents.now version.behind.now c.in_ok-version.ensures in
    let fourth = info-fourth algorithm key c.args.octets.now c.in_ok-contents.contents.now public p c.in_ok-contents.ensures
    version.contents.now version.behind.now c.in_ok-version.ensures found.contents.now found.behind.now c.in_ok-algorithm.ensures
    own.contents.now own.behind.now c.in_ok-key.ensures in
    c.in_err-public.ensures public second.0 (c.behind_attributes.ensures.only p.attributes public p.passed fourth.1))

pub returns : goal.returns
returns c =
    let version = c.in_ok-version.version in
    let found = c.in_ok-algorithm.algorithm in
    let own = c.in_ok-key.key in
    let split = c.behind_attributes.ensures.split in
    info-made c.args.octets.now c.in_ok-contents.contents.now version.contents.now version.behind.now found.contents.now found.behind.now
    own.contents.now own.behind.now c.behind_attributes.result.now split.0 _ c.in_ok-contents.ensures c.in_ok-version.ensures
    c.in_ok-algorithm.ensures c.in_ok-key.ensures split.1 split.2 c.in_ok-public.ensures.0 c.in_ok-public.ensures.1
