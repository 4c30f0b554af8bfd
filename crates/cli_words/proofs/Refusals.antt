-- What clap refuses is refused, and what it takes is read.
use Rattle.std.proofs.Common.{◌≡◌, ◌≢◌, ◌&&◌, inl, inr, refl, ap, sym, subst, ◌∙◌, Bool, List, [], ◌∷◌, Option, true, false}
use Rattle.std.specs.List.{list_any}
use Rattle.std.specs.Prelude.{◌↔◌, Err, IfOk, IsTrue, Ok, Result}
use Rattle.clap.specs.Words.{App, HasKind, HasMatchesOf, fault_of, Kinds, Row, Text, kind_of, is_simple, is_simple_and_free, subcommand_of, subcommand_rows_of}
use Rattle.clap.specs.declared.parser.matches.ArgMatches.{ArgMatches}
use Rattle.clap.specs.declared.error.Error.{Error}
use Rattle.clap.specs.declared.error.kind.ErrorKind.{ErrorKind}
use Rattle.cli_words.specs.App.{the_app}
use Rattle.cli_words.specs.Asked.{asked, asks_help, command_read, read_unless}
use Rattle.cli_words.specs.Told.{is_help, wants_help}
use Rattle.cli_words.specs.declared.words.Reading.{Reading}

pub simple_and_free : is_simple_and_free the_app ≡ true
simple_and_free = refl

pub refused_by : (kinds : Kinds) (found : Option (Text × List Row)) (e : Error) → HasKind kinds e → kind_of e ≢ ErrorKind.OutOfMemory → read_unless kinds found ≡ Reading.Refused
refused_by [] found e (inl k) other = absurd (other k)
refused_by [] found e (inr k) other = absurd k
refused_by (k ∷ ks) found e has other = refl

pub refused_words : (a : App) (words : List Text) (e : Error) → a ≡ the_app → (is_simple_and_free a ≡ true → HasKind (fault_of a words) e) → kind_of e ≢ ErrorKind.OutOfMemory
    → asked words ≡ Reading.Refused
refused_words a words e same kinds other =
    let has = subst (λ (x : App). HasKind (fault_of x words) e) same (kinds (ap is_simple_and_free same ∙ simple_and_free)) in
    refused_by (fault_of the_app words) _ e has other

pub simple : is_simple the_app ≡ true
simple = refl

pub asked_words : (a : App) (words : List Text) (m : ArgMatches) (r : Reading) → a ≡ the_app → HasMatchesOf a words m → (is_simple_and_free a ≡ true → fault_of a words ≡ []) → r ≡ command_read (subcommand_rows_of m)
    → asked words ≡ r
asked_words a words m r same has kinds is =
    let found = subst (λ (x : App). HasMatchesOf x words m) same has simple in
    let none = subst (λ (x : App). fault_of x words ≡ []) same (kinds (ap is_simple_and_free same ∙ simple_and_free)) in
    ap (λ (k : Kinds). read_unless k (subcommand_of the_app words)) none ∙ (ap command_read (sym found.1) ∙ sym is)

-- ---- help

first_true : (a b : Bool) → (a && b) ≡ true → a ≡ true
first_true true b is = refl
first_true false b is = is

-- the kind of what clap finds where help alone is answered
help_kind : (kinds : Kinds) (e : Error) → HasKind kinds e → kind_of e ≢ ErrorKind.OutOfMemory → is_help kinds ≡ true
    → kind_of e ≡ ErrorKind.DisplayHelp
help_kind (ErrorKind.DisplayHelp ∷ []) e (inl k) other is = absurd (other k)
help_kind (ErrorKind.DisplayHelp ∷ []) e (inr (inl k)) other is = k
help_kind (ErrorKind.DisplayHelp ∷ []) e (inr (inr k)) other is = absurd k
help_kind _ e has other is = absurd (cc)

pub helped_words : (a : App) (words : List Text) (e : Error) → a ≡ the_app
    → (is_simple_and_free a ≡ true → HasKind (fault_of a words) e) → kind_of e ≢ ErrorKind.OutOfMemory
    → wants_help words ≡ true → kind_of e ≡ ErrorKind.DisplayHelp
helped_words a words e same kinds other wants =
    let has = subst (λ (x : App). HasKind (fault_of x words) e) same
    (kinds (ap is_simple_and_free same ∙ simple_and_free)) in
    help_kind (fault_of the_app words) e has other
    (first_true (is_help (fault_of the_app words)) (list_any asks_help words) wants)

pub unhelped_words : (a : App) (words : List Text) → a ≡ the_app
    → (is_simple_and_free a ≡ true → fault_of a words ≡ []) → wants_help words ≡ false
unhelped_words a words same kinds =
    let none = subst (λ (x : App). fault_of x words ≡ []) same (kinds (ap is_simple_and_free same ∙ simple_and_free)) in
    ap (λ (k : Kinds). is_help k && list_any asks_help words) none

-- help isn't wanted where clap's answer isn't help
pub unwanted : (b : Bool) (k : ErrorKind) → (b ≡ true → k ≡ ErrorKind.DisplayHelp) → k ≢ ErrorKind.DisplayHelp
    → b ≡ false
unwanted true k is other = absurd (other (is refl))
unwanted false k is other = refl

pub unasked : (words : List Text) → list_any asks_help words ≡ false → wants_help words ≡ false
unasked words none = ap (λ (b : Bool). is_help (fault_of the_app words) && b) none ∙ never (is_help (fault_of the_app words))
  where
    never : (a : Bool) → (a && false) ≡ false
    never true = refl
    never false = refl

-- what goes to standard error is no help
pub told_aside : (r : Bool) (k : ErrorKind)
    → (IsTrue r ↔ ((k ≢ ErrorKind.DisplayHelp) × (k ≢ ErrorKind.DisplayVersion))) → r ≡ true
    → k ≢ ErrorKind.DisplayHelp
told_aside r k tells is = (tells.0 is).0

-- what an answer is said to be, where its two premises hold
pub applied : {A E P Q : Type 0} (T : A → Type 0) (r : Result A E) → IfOk r (λ x. P → Q → T x) → P → Q → IfOk r T
applied T (Ok x) says p q = says p q
applied T (Err e) says p q = tt
