-- Tests of numbers, where these are the same or aren't.
use Rattle.std.proofs.Common.{◌≡◌, ◌≢◌, ◌<◌, ◌≤◌, ℕ, zero, suc, Bool, true, false, List, [], ◌∷◌, Option, Some, None, refl, sym, ap, ◌∙◌, arith}
use Rattle.std.proofs.lemmas.Bool.{false≢true, le-leb, lt-ltb, leb-true, ltb-true}
use Rattle.std.specs.List.{list_any}
use Rattle.std.specs.Prelude.{nat_le, nat_lt, slice_get, if◌then◌else◌, ◌==◌, ◌||◌}
use Rattle.pass_elide_ready.specs.Form.{gives_in, is_name}
use Rattle.pass_elide_edges.specs.pass_elide_proof.Places.{instrs_of}
use Rattle.pass_elide_edges.proofs.pass_elide_proof.pass_proofs.ir_laws.facts.Lists.{at_any}
use Rattle.pass_elide_edges.proofs.pass_elide_proof.pass_proofs.ir_laws.facts.Truth.{equal_numbers, itself}
use Rattle.pass_elide_edges.proofs.pass_elide_proof.pass_proofs.ir_laws.facts.local_rules.Woven.{other_number}
use Rattle.pass_elide_edges.specs.pass_elide_proof.pass_proofs.ir_model.declared.instr.Instr.{Instr}
use Rattle.pass_elide_edges.specs.pass_elide_proof.pass_proofs.ir_model.declared.module.Function.{Function}
use Rattle.pass_elide_edges.specs.pass_elide_proof.pass_proofs.ir_parts.Contents.{result_of}

pub not_true : (b : Bool) → (b ≡ true → ⊥) → b ≡ false
not_true true h = absurd (h refl)
not_true false h = refl

-- what a test of the same number chooses
pub same_chosen : {A : Type 0} (a : ℕ) (x y : A) → (if a == a then x else y) ≡ x
same_chosen a x y = ap (λ (t : Bool). if t then x else y) (itself a)

pub other_chosen : {A : Type 0} (a b : ℕ) (x y : A) → a ≢ b → (if a == b then x else y) ≡ y
other_chosen a b x y ne = ap (λ (t : Bool). if t then x else y) (other_number a b ne)

pub below_chosen : {A : Type 0} (a b : ℕ) (x y : A) → a < b → (if nat_lt a b then x else y) ≡ x
below_chosen a b x y lt = ap (λ (t : Bool). if t then x else y) (lt-ltb a b lt)

pub above_chosen : {A : Type 0} (a b : ℕ) (x y : A) → b ≤ a → (if nat_lt a b then x else y) ≡ y
above_chosen a b x y le = ap (λ (t : Bool). if t then x else y) (not_true (nat_lt a b) (λ e. high (ltb-true a b e)))
  where
    high : a < b → ⊥
    high lt = omega (arith, lt, le)

pub most_chosen : {A : Type 0} (a b : ℕ) (x y : A) → a ≤ b → (if nat_le a b then x else y) ≡ x
most_chosen a b x y le = ap (λ (t : Bool). if t then x else y) (le-leb a b le)

pub beyond_chosen : {A : Type 0} (a b : ℕ) (x y : A) → b < a → (if nat_le a b then x else y) ≡ y
beyond_chosen a b x y lt = ap (λ (t : Bool). if t then x else y) (not_true (nat_le a b) (λ e. low (leb-true a b e)))
  where
    low : a ≤ b → ⊥
    low le = omega (arith, lt, le)

-- ---- names

pub is_name_is : (v : ℕ) (o : Option ℕ) → is_name v o ≡ true → o ≡ Some v
is_name_is v None e = absurd (false≢true e)
is_name_is v (Some u) e = ap Some (sym (equal_numbers v u e))

pub names_it : (v : ℕ) (o : Option ℕ) → o ≡ Some v → is_name v o ≡ true
names_it v o e = ap (is_name v) e ∙ itself v

pub any_at : {A : Type 0} (test : A → Bool) (xs : List A) (k : ℕ) (x : A) → slice_get xs k ≡ Some x → test x ≡ true
    → list_any test xs ≡ true
any_at test [] k x e h = absurd (cc)
any_at test (y ∷ xs) zero x e h =
    let same : y ≡ x = cc in ap (λ (b : Bool). b || list_any test xs) (ap test same ∙ h)
any_at test (y ∷ xs) (suc k) x e h = later (test y) (any_at test xs k x e h)
  where
    later : (b : Bool) → list_any test xs ≡ true → (b || list_any test xs) ≡ true
    later true r = refl
    later false r = r

-- an instruction of a block gives a name
pub given_there : (f : Function) (block k v : ℕ) (i : Instr) → slice_get (instrs_of f block) k ≡ Some i
    → result_of i ≡ Some v → gives_in f block v ≡ true
given_there f block k v i there one =
    any_at (λ (j : Instr). is_name v (result_of j)) (instrs_of f block) k i there (names_it v (result_of i) one)

pub record GivesThere (f : Function) (block v : ℕ) : Type 0 where
  pub at : ℕ
  pub instr : Instr
  pub there : slice_get (instrs_of f block) at ≡ Some instr
  pub gives : result_of instr ≡ Some v

pub gives_there : (f : Function) (block v : ℕ) → gives_in f block v ≡ true → GivesThere f block v
gives_there f block v e =
    let x = at_any (λ (j : Instr). is_name v (result_of j)) (instrs_of f block) e in
    record {
      at = x.index;
      instr = x.element;
      there = x.got;
      gives = is_name_is v (result_of x.element) x.passes;
    }
