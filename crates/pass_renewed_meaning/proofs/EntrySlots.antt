-- The flagged allocas of an entry block: each flagged name is that of one of them, and of no other.
use Rattle.std.proofs.Common.{◌≡◌, ◌≢◌, ℕ, zero, suc, ◌+◌, ◌≤◌, Bool, true, false, List, [], ◌∷◌, Option, Some, None}
use Rattle.std.proofs.Common.{refl, sym, ap, ◌∙◌, subst, ⊎_elim, arith, if◌then◌else◌, ◌==◌}
use Rattle.std.proofs.lemmas.Bool.{false≢true}
use Rattle.std.specs.List.{Contains}
use Rattle.std.specs.Prelude.{IsTrue, drop, option_map, slice_get}
use Rattle.run_types.specs.ir_model.Names.{first_where}
use Rattle.run_types.specs.ir_model.Ty.{Ty}
use Rattle.run_types.specs.ir_model.declared.instr.Instr.{Instr}
use Rattle.run_types.specs.ir_model.declared.module.Block.{Block}
use Rattle.run_types.specs.ir_model.declared.module.Function.{Function}
use Rattle.run_types.specs.ir_model.declared.module.Module.{Module}
use Rattle.run_types.specs.ir_paths.declared.point.Point.{Point}
use Rattle.run_types.proofs.pass_kept_proof.Same.{either, eq_from, eq_itself, or_left, or_right}
use Rattle.run_types.specs.run_step.Step.{AtInstr, fetch, fetch_in, fetch_or}
use Rattle.pass_renewed_meaning.proofs.NewSlots.{AreDistinct}
use Rattle.run_types.proofs.pass_renewed_proof.Listing.{contains_first, contains_more}
use Rattle.run_types.specs.pass_renewed_proof.Entering.{Anew, AreNext, anew_in, if_renewed, is_named}
use Rattle.run_types.specs.pass_renewed_proof.Renewed.{is_renewed, renewed_from, renewed_in}
use Rattle.run_types.specs.pass_renewed_proof.SlotRules.{KeepsSlots}
use Rattle.run_types.specs.pass_renewed_proof.Steps.{given_at}

-- ---- what follows stands later

from_or_later : (flags : ℕ → Bool) (f : Function) (at : ℕ) (p : Point) → renewed_from flags f at ≡ Some p → at ≤ p.at
from_or_later flags f at p e = on (slice_get f.blocks 0) e
  where
    there : (o : Option ℕ) → option_map (λ k. record { block = 0; at = k }) (option_map (λ k. at + k) o) ≡ Some p
        → at ≤ p.at
    there None k = absurd (cc)
    there (Some k) h =
        let same : at + k ≡ p.at = cc in
        omega arith

    on : (o : Option Block) → option_map (λ k. record { block = 0; at = k }) (renewed_in flags o at) ≡ Some p
        → at ≤ p.at
    on None k = absurd (cc)
    on (Some b) k = there (first_where (is_renewed flags) (drop at b.instrs)) k

-- one of them is a flagged alloca, from the position on
pub record IsEntrySlot (flags : ℕ → Bool) (f : Function) (at : ℕ) (x : Anew) : Type 0 where
  pub stands : fetch f 0 x.at ≡ AtInstr (Instr.Alloca x.name x.ty x.align)
  pub flagged : IsTrue (flags x.name)
  pub later : at ≤ x.at

pub each_next : (flags : ℕ → Bool) (f : Function) (at : ℕ) (xs : List Anew) → AreNext flags f at xs → (x : Anew)
    → Contains xs x → IsEntrySlot flags f at x
each_next flags f at [] next x (k, lt, e) = absurd (omega arith)
each_next flags f at (y ∷ xs) next x (zero, lt, e) = subst (IsEntrySlot flags f at) e (record {
  stands = next.1;
  flagged = next.2;
  later = from_or_later flags f at (record { block = 0; at = y.at }) next.0;
})
each_next flags f at (y ∷ xs) next x (suc k, lt, e) =
    let r = each_next flags f (y.at + 1) xs next.4 x (k, omega arith, e) in
    let first = from_or_later flags f at (record { block = 0; at = y.at }) next.0 in
    let after = r.later in
    record { stands = r.stands; flagged = r.flagged; later = through at y.at x.at first after }
  where
    through : (a b c : ℕ) → a ≤ b → b + 1 ≤ c → a ≤ c
    through a b c p q = omega arith

-- a name that is among them is that of one of them
pub of_name : (xs : List Anew) (a : ℕ) → is_named xs a ≡ true → (x : Anew) × Contains xs x × (x.name ≡ a)
of_name [] a e = absurd (false≢true e)
of_name (x ∷ xs) a e = ⊎_elim
    (λ same. (x, contains_first x xs, eq_from x.name a same))
    (λ later. let r = of_name xs a later in (r.0, contains_more x xs r.0 r.1, r.2))
    (either (x.name == a) (is_named xs a) e)

module _ (m : Module) (f : Function) (flags : ℕ → Bool) (roots : ℕ → Option ℕ) (keeps : KeepsSlots m f flags roots) where
  one_place : (x y : Anew) (i j : ℕ) → IsEntrySlot flags f i x → IsEntrySlot flags f j y → x.name ≡ y.name → x.at ≡ y.at
  one_place x y i j p q same =
      let made = keeps.made x.name p.flagged in
      let first = made.alone 0 x.at (ap given_at p.stands) in
      let second = made.alone 0 y.at (ap given_at q.stands ∙ ap Some (sym same)) in
      first.1 ∙ sym second.1

  pub distinct : (at : ℕ) (xs : List Anew) → AreNext flags f at xs → AreDistinct xs
  distinct at [] next = tt
  distinct at (x ∷ xs) next = (on (is_named xs x.name) refl, distinct (x.at + 1) xs next.4)
    where
      first : IsEntrySlot flags f at x
      first = each_next flags f at (x ∷ xs) next x (contains_first x xs)

      on : (t : Bool) → is_named xs x.name ≡ t → is_named xs x.name ≡ false
      on false e = e
      on true e =
          let r = of_name xs x.name e in
          let later = each_next flags f (x.at + 1) xs next.4 r.0 r.1 in
          let same = one_place x r.0 at (x.at + 1) first later (sym r.2) in
          absurd (behind x.at r.0.at same later.later)
        where
          behind : (a b : ℕ) → a ≡ b → a + 1 ≤ b → ⊥
          behind a b e le = absurd (omega arith)

-- ---- a flagged alloca is among them

more_named : (flags : ℕ → Bool) (at a : ℕ) (i : Instr) (xs : List Anew) → is_named xs a ≡ true
    → is_named (if_renewed flags at i xs) a ≡ true
more_named flags at a (Instr.Alloca name ty align) xs e = on (flags name)
  where
    on : (t : Bool) → is_named (if t then record { name = name; at = at; ty = ty; align = align } ∷ xs else xs) a ≡ true
    on true = or_right (name == a) _ e
    on false = e
more_named flags at a _ xs e = e

first_named : (flags : ℕ → Bool) (at a : ℕ) (ty : Ty) (align : ℕ) (xs : List Anew) → flags a ≡ true
    → is_named (if_renewed flags at (Instr.Alloca a ty align) xs) a ≡ true
first_named flags at a ty align xs e = ap (λ t. is_named (if t then record {
  name = a;
  at = at;
  ty = ty;
  align = align;
} ∷ xs else xs) a) e ∙ or_left (a == a) _ (eq_itself a)

instr_named : (flags : ℕ → Bool) (at : ℕ) (is : List Instr) (k a : ℕ) (ty : Ty) (align : ℕ) → slice_get is k ≡ Some
    (Instr.Alloca a ty align) → flags a ≡ true → is_named (anew_in flags at is) a ≡ true
instr_named flags at [] k a ty align e on = absurd (cc)
instr_named flags at (i ∷ is) zero a ty align e on = subst (λ j. is_named (if_renewed flags at j (anew_in flags (at + 1)
    is)) a ≡ true) (sym (same i (Instr.Alloca a ty align) e)) (first_named flags at a ty align (anew_in flags (at + 1)
    is) on)
  where
    same : (x y : Instr) → Some x ≡ Some y → x ≡ y
    same x y e = cc
instr_named flags at (i ∷ is) (suc k) a ty align e on = more_named flags at a i _ (instr_named flags (at + 1) is k a ty
    align e on)

fetched : (o : Option Instr) (b : Block) (u : Bool) (i : Instr) → fetch_or o u b.term ≡ AtInstr i → o ≡ Some i
fetched (Some j) b u i e = cc
fetched None b true i e = absurd (cc)
fetched None b false i e = absurd (cc)

pub flagged_named : (m : Module) (f : Function) (flags : ℕ → Bool) (roots : ℕ → Option ℕ)
    → KeepsSlots m f flags roots → (b : Block) → slice_get f.blocks 0 ≡ Some b → (a : ℕ) → IsTrue (flags a)
    → is_named (anew_in flags 0 b.instrs) a ≡ true
flagged_named m f flags roots keeps b there a flagged =
    let made = keeps.made a flagged in
    let at : fetch_in (Some b) made.at ≡ AtInstr (Instr.Alloca a made.ty made.align) = ap (λ o. fetch_in o made.at) (sym
    there) ∙ made.stands in
    instr_named flags 0 b.instrs made.at a made.ty made.align (fetched (slice_get b.instrs made.at) b _ (Instr.Alloca a
    made.ty made.align) at) flagged
