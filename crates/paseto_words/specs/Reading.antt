-- What the matches of a command ask for.
use Rattle.std.specs.Prelude.{List, [], Bool, false, ◌&&◌, if◌then◌else◌, Option, None, Some, is_some, option_map, option_and_then, unwrap_or, codes, nat_eq}
use Rattle.std.specs.Cmp.Lexicographic.{pointwise}
use Rattle.clap.specs.Words.{Row, Text, all_of, first_of, found_of, rows_of}
use Rattle.clap.specs.declared.parser.matches.ArgMatches.{ArgMatches}
use Rattle.paseto_words.specs.Action.{Asked, KeyFileWords, KeyedWords, OpenersWords, WrittenWords}

abbrev pub is : Text → Text → Bool
is word name = pointwise nat_eq word name

-- a flag is set
abbrev pub says : Option Text → Bool
says None = false
says (Some value) = is value (codes "true")

abbrev pub all_in : Text → List Row → List Text
all_in id rows = unwrap_or (all_of id rows) []

-- one of two options or none, and not both
abbrev pub one_at_most : Option Text → Option Text → Option (Option Text × Option Text)
one_at_most a b = if is_some a && is_some b then None else Some (a, b)

abbrev pub foot_in : List Row → Option (Option Text × Option Text)
foot_in rows = one_at_most (first_of (codes "footer") rows) (first_of (codes "footer-kid") rows)

abbrev pub keys_in : List Row → Option (Option Text × Option Text)
keys_in rows = one_at_most (first_of (codes "key") rows) (first_of (codes "ring") rows)

abbrev pub under_in : List Row → Option (Option Text × Option Text)
under_in rows = one_at_most (first_of (codes "wrapping-key") rows) (first_of (codes "password-file") rows)

abbrev pub openers_in : List Row → OpenersWords
openers_in rows = record { password = first_of (codes "password-file") rows; key = first_of (codes "unlock-key") rows }

abbrev pub key_file_in : List Row → KeyFileWords
key_file_in rows = record { file = first_of (codes "key") rows; openers = openers_in rows }

abbrev pub keygen_in : List Row → Option Asked
keygen_in rows = option_map (λ kind. Asked.to_keygen (record {
  kind = kind;
  password = first_of (codes "password-file") rows;
  format = first_of (codes "format") rows;
  out = first_of (codes "out") rows;
  public = first_of (codes "public") rows;
  quiet = says (first_of (codes "quiet") rows);
})) (first_of (codes "kind") rows)

abbrev pub written_in : List Row → WrittenWords
written_in rows = record { key = key_file_in rows; format = first_of (codes "format") rows; out = first_of (codes "out") rows }

abbrev pub wrap_in : List Row → Option Asked
wrap_in rows = option_map (λ under. Asked.to_wrap (record {
  key = first_of (codes "key") rows;
  under = under;
  out = first_of (codes "out") rows;
})) (under_in rows)

abbrev pub seal_in : List Row → Option Asked
seal_in rows = option_map (λ to. Asked.to_seal (record {
  key = key_file_in rows;
  to = to;
  out = first_of (codes "out") rows;
})) (first_of (codes "to") rows)

abbrev pub issue_in : List Row → Option Asked
issue_in rows = option_and_then (λ keys. option_map (λ foot. Asked.to_issue (record {
  key = key_file_in rows;
  ring = keys.1;
  claims = all_in (codes "claim") rows;
  expires = first_of (codes "expires") rows;
  not_before = first_of (codes "not-before") rows;
  foot = foot;
  assertion = first_of (codes "assertion") rows;
  out = first_of (codes "out") rows;
})) (foot_in rows)) (keys_in rows)

abbrev pub check_in : List Row → Option Asked
check_in rows = option_and_then (λ keys. option_map (λ foot. Asked.to_check (record {
  keys = keys;
  openers = openers_in rows;
  claims = all_in (codes "claim") rows;
  required = all_in (codes "require") rows;
  at = first_of (codes "at") rows;
  leeway = first_of (codes "leeway") rows;
  foot = foot;
  assertion = first_of (codes "assertion") rows;
  each = says (first_of (codes "each") rows);
  longest = first_of (codes "longest") rows;
  input = first_of (codes "input") rows;
})) (foot_in rows)) (keys_in rows)

abbrev pub keyed_in : List Row → Option KeyedWords
keyed_in rows = option_map (λ keys. record {
  key = key_file_in rows;
  ring = keys.1;
  footer = first_of (codes "footer") rows;
  assertion = first_of (codes "assertion") rows;
  longest = first_of (codes "longest") rows;
  input = first_of (codes "input") rows;
  out = first_of (codes "out") rows;
}) (keys_in rows)

abbrev pub explain_in : List Row → Option Asked
explain_in rows = option_map (λ issued. Asked.to_explain (record {
  key = key_file_in rows;
  issued = issued;
  footer = first_of (codes "footer") rows;
  assertion = first_of (codes "assertion") rows;
  longest = first_of (codes "longest") rows;
  input = first_of (codes "input") rows;
})) (first_of (codes "issued") rows)

abbrev pub inspect_in : List Row → Asked
inspect_in rows = Asked.to_inspect (record { longest = first_of (codes "longest") rows; input = first_of (codes "input") rows })

-- what a command's matches ask for
abbrev pub asked_in : Text → List Row → Option Asked
asked_in name rows =
    if is name (codes "keygen") then keygen_in rows
    else if is name (codes "public") then Some (Asked.to_public (written_in rows))
    else if is name (codes "id") then Some (Asked.to_id (key_file_in rows))
    else if is name (codes "wrap") then wrap_in rows
    else if is name (codes "unwrap") then Some (Asked.to_unwrap (written_in rows))
    else if is name (codes "seal") then seal_in rows
    else if is name (codes "unseal") then Some (Asked.to_unseal (written_in rows))
    else if is name (codes "issue") then issue_in rows
    else if is name (codes "check") then check_in rows
    else if is name (codes "encrypt") then option_map Asked.to_encrypt (keyed_in rows)
    else if is name (codes "decrypt") then option_map Asked.to_decrypt (keyed_in rows)
    else if is name (codes "sign") then option_map Asked.to_sign (keyed_in rows)
    else if is name (codes "verify") then option_map Asked.to_verify (keyed_in rows)
    else if is name (codes "explain") then explain_in rows
    else if is name (codes "inspect") then Some (inspect_in rows)
    else None

-- what the program's matches ask for, by the command that clap finds in the words
abbrev pub found_in : Option (Text × List Row) → Option Asked
found_in = option_and_then (λ p. asked_in p.0 p.1)

abbrev pub rows_in : ArgMatches → List Row
rows_in m = rows_of (found_of m)
