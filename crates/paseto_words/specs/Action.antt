-- What words ask for, as texts.
use Rattle.std.specs.Prelude.{List, Bool, Option, None, Some, map, option_map}
use Rattle.std.specs.Borrow.{Bor}
use Rattle.clap.specs.Words.{Text}
use Rattle.paseto_words.specs.declared.action.Action.{Action}
use Rattle.paseto_words.specs.declared.action.Action.TheVariants as action
use Rattle.paseto_words.specs.declared.action.Foot.{Foot}
use Rattle.paseto_words.specs.declared.action.Foot.TheVariants as foot
use Rattle.paseto_words.specs.declared.action.KeyFile.{KeyFile}
use Rattle.paseto_words.specs.declared.action.Keyed.{Keyed}
use Rattle.paseto_words.specs.declared.action.Keys.{Keys}
use Rattle.paseto_words.specs.declared.action.Keys.TheVariants as keys
use Rattle.paseto_words.specs.declared.action.Openers.{Openers}
use Rattle.paseto_words.specs.declared.action.Under.{Under}
use Rattle.paseto_words.specs.declared.action.Under.TheVariants as under
use Rattle.paseto_words.specs.declared.action.Written.{Written}

-- a file of a password, and a file of a key
pub record OpenersWords : Type 0 where
  pub password : Option Text
  pub key : Option Text

pub record KeyFileWords : Type 0 where
  pub file : Option Text
  pub openers : OpenersWords

pub record KeygenWords : Type 0 where
  pub kind : Text
  pub password : Option Text
  pub format : Option Text
  pub out : Option Text
  pub public : Option Text
  pub quiet : Bool

pub record WrittenWords : Type 0 where
  pub key : KeyFileWords
  pub format : Option Text
  pub out : Option Text

pub record WrapWords : Type 0 where
  pub key : Option Text
  -- a file of a wrapping key and a file of a password
  pub under : Option Text × Option Text
  pub out : Option Text

pub record SealWords : Type 0 where
  pub key : KeyFileWords
  pub to : Text
  pub out : Option Text

pub record IssueWords : Type 0 where
  pub key : KeyFileWords
  pub ring : Option Text
  pub claims : List Text
  pub expires : Option Text
  pub not_before : Option Text
  -- a footer and the id of a key for the footer
  pub foot : Option Text × Option Text
  pub assertion : Option Text
  pub out : Option Text

pub record CheckWords : Type 0 where
  -- a key file and a folder of key files
  pub keys : Option Text × Option Text
  pub openers : OpenersWords
  pub claims : List Text
  pub required : List Text
  pub at : Option Text
  pub leeway : Option Text
  pub foot : Option Text × Option Text
  pub assertion : Option Text
  pub each : Bool
  pub longest : Option Text
  pub input : Option Text

pub record KeyedWords : Type 0 where
  pub key : KeyFileWords
  -- a folder of key files
  pub ring : Option Text
  pub footer : Option Text
  pub assertion : Option Text
  pub longest : Option Text
  pub input : Option Text
  pub out : Option Text

pub record ExplainWords : Type 0 where
  pub key : KeyFileWords
  -- the file of the tokens that were issued
  pub issued : Text
  pub footer : Option Text
  pub assertion : Option Text
  pub longest : Option Text
  pub input : Option Text

pub record InspectWords : Type 0 where
  pub longest : Option Text
  pub input : Option Text

-- what words ask for
pub data Asked : Type 0 where
  to_keygen : KeygenWords → Asked
  to_public : WrittenWords → Asked
  to_id : KeyFileWords → Asked
  to_wrap : WrapWords → Asked
  to_unwrap : WrittenWords → Asked
  to_seal : SealWords → Asked
  to_unseal : WrittenWords → Asked
  to_issue : IssueWords → Asked
  to_check : CheckWords → Asked
  to_encrypt : KeyedWords → Asked
  to_decrypt : KeyedWords → Asked
  to_sign : KeyedWords → Asked
  to_verify : KeyedWords → Asked
  to_explain : ExplainWords → Asked
  to_inspect : InspectWords → Asked

-- ---- an action, as texts

abbrev pub text : Option (Bor Text) → Option Text
text = option_map (λ s. s.now)

abbrev pub texts_of : List (Bor Text) → List Text
texts_of = map (λ s. s.now)

abbrev pub footing : Foot → Option Text × Option Text
footing foot.Unsaid = (None, None)
footing (foot.Text t) = (Some t.now, None)
footing (foot.Kid t) = (None, Some t.now)

abbrev pub keying : Keys → Option Text × Option Text
keying keys.Unsaid = (None, None)
keying (keys.File t) = (Some t.now, None)
keying (keys.Ring t) = (None, Some t.now)

abbrev pub underlying : Under → Option Text × Option Text
underlying under.Unsaid = (None, None)
underlying (under.Key t) = (Some t.now, None)
underlying (under.Password t) = (None, Some t.now)

abbrev pub openers_words : Openers → OpenersWords
openers_words a = record { password = text a.password; key = text a.key }

abbrev pub key_file_words : KeyFile → KeyFileWords
key_file_words a = record { file = text a.file; openers = openers_words a.openers }

abbrev pub written_words : Written → WrittenWords
written_words a = record { key = key_file_words a.key; format = text a.format; out = text a.out }

abbrev pub keyed_words : Keyed → KeyedWords
keyed_words a = record {
  key = key_file_words a.key;
  ring = text a.ring;
  footer = text a.footer;
  assertion = text a.assertion;
  longest = text a.longest;
  input = text a.input;
  out = text a.out;
}

abbrev pub plain : Action → Asked
plain (action.Keygen a) = Asked.to_keygen (record {
  kind = a.kind.now;
  password = text a.password;
  format = text a.format;
  out = text a.out;
  public = text a.public;
  quiet = a.quiet;
})
plain (action.Public a) = Asked.to_public (written_words a)
plain (action.Id a) = Asked.to_id (key_file_words a)
plain (action.Wrap a) = Asked.to_wrap (record { key = text a.key; under = underlying a.under; out = text a.out })
plain (action.Unwrap a) = Asked.to_unwrap (written_words a)
plain (action.Seal a) = Asked.to_seal (record { key = key_file_words a.key; to = a.to.now; out = text a.out })
plain (action.Unseal a) = Asked.to_unseal (written_words a)
plain (action.Issue a) = Asked.to_issue (record {
  key = key_file_words a.key;
  ring = text a.ring;
  claims = texts_of a.claims.items;
  expires = text a.expires;
  not_before = text a.not_before;
  foot = footing a.foot;
  assertion = text a.assertion;
  out = text a.out;
})
plain (action.Check a) = Asked.to_check (record {
  keys = keying a.keys;
  openers = openers_words a.openers;
  claims = texts_of a.claims.items;
  required = texts_of a.required.items;
  at = text a.at;
  leeway = text a.leeway;
  foot = footing a.foot;
  assertion = text a.assertion;
  each = a.each;
  longest = text a.longest;
  input = text a.input;
})
plain (action.Encrypt a) = Asked.to_encrypt (keyed_words a)
plain (action.Decrypt a) = Asked.to_decrypt (keyed_words a)
plain (action.Sign a) = Asked.to_sign (keyed_words a)
plain (action.Verify a) = Asked.to_verify (keyed_words a)
plain (action.Explain a) = Asked.to_explain (record {
  key = key_file_words a.key;
  issued = a.issued.now;
  footer = text a.footer;
  assertion = text a.assertion;
  longest = text a.longest;
  input = text a.input;
})
plain (action.Inspect a) = Asked.to_inspect (record { longest = text a.longest; input = text a.input })
