-- What is said of arguments that do not say what to do.
use Rattle.std.specs.Prelude.{ℕ, List, codes}
use Rattle.paseto_tasks.specs.declared.error.usage.TimeOption.{TimeOption}
use Rattle.paseto_tasks.specs.declared.error.usage.TimeOption.TheVariants.{Expires, NotBefore, At, Leeway}
use Rattle.paseto_tasks.specs.declared.error.usage.UsageError.{UsageError}
use Rattle.paseto_tasks.specs.declared.error.usage.UsageError.TheVariants.{NotText, KeyWord, NoKind, NoHalf, NoFormat, LockedPem, SameFile, NoKey, NoPassword, OneInput, RingFooter, Longest, Claim, TimeClaim, Time, Negative, TooLong, PrivateId, TokenWord}

-- what is said where an option says no time
abbrev pub time_text : TimeOption → List ℕ
time_text Expires = codes "--expires: write a time as 90s, 30m, 12h, 7d or 2026-11-22T10:00:00Z"
time_text NotBefore = codes "--not-before: write a time as 90s, 30m, 12h, 7d or 2026-11-22T10:00:00Z"
time_text At = codes "--at: write a time as 90s, 30m, 12h, 7d or 2026-11-22T10:00:00Z"
time_text Leeway = codes "--leeway: write a length of time as 5s, 30m, 12h or 7d"

-- what is said where it says a length of time that is none
abbrev pub negative_text : TimeOption → List ℕ
negative_text Expires = codes "--expires: a length of time is not negative"
negative_text NotBefore = codes "--not-before: a length of time is not negative"
negative_text At = codes "--at: a length of time is not negative"
negative_text Leeway = codes "--leeway: a length of time is not negative"

abbrev pub too_long_text : TimeOption → List ℕ
too_long_text Expires = codes "--expires: the length of time is too large"
too_long_text NotBefore = codes "--not-before: the length of time is too large"
too_long_text At = codes "--at: the length of time is too large"
too_long_text Leeway = codes "--leeway: the length of time is too large"

abbrev pub usage_text : UsageError → List ℕ
usage_text NotText = codes "an argument is not valid UTF-8: see paseto --help"
usage_text KeyWord = codes "a key is among the arguments, where others can see it: name the file that holds it"
usage_text NoKind = codes "not a kind of key: use v1.local, v2.local, v2.public, v3.local, v3.public, v4.local or v4.public"
usage_text NoHalf = codes "keys of this kind have no public half: omit --public"
usage_text NoFormat = codes "--format: must be paserk or pem"
usage_text LockedPem = codes "a key under a password is not written in PEM: omit --format or the password"
usage_text SameFile = codes "--out and --public name one file: name two"
usage_text NoKey = codes "no key is given: use --key FILE, or put the text of the key into PASETO_KEY"
usage_text NoPassword = codes "no password is given: use --password-file FILE, or\n  read -rs password\n  printf %s \"$password\" | paseto wrap --password-file - --key FILE"
usage_text OneInput = codes "standard input is named twice: name files for the key, the password or the input"
usage_text RingFooter = codes "--ring names its key in the footer: omit --footer and --footer-kid"
usage_text Longest = codes "--longest: write a number of bytes, such as 100000000"
usage_text Claim = codes "--claim: write a claim as aud=customers, or as seats:=4 with a value of JSON"
usage_text TimeClaim = codes "--claim: set exp and nbf by --expires and --not-before; iat is set already"
usage_text (Time option) = time_text option
usage_text (Negative option) = negative_text option
usage_text (TooLong option) = too_long_text option
usage_text PrivateId = codes "--footer-kid: the id of a private key: give that of the public one, which paseto id prints"
usage_text TokenWord = codes "a token is among the arguments: pass it on standard input, or in a file"
