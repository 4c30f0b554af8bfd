-- Which suspends take which tokens when saves are written out.
use Rattle.std.proofs.Common.{◌≡◌, ℕ, zero, suc, ◌+◌, ◌<◌, ◌≤◌, Bool, true, false, List, [], ◌∷◌, ◌++◌, length, refl, sym, ap, ◌∙◌, arith}
use Rattle.std.proofs.lemmas.Option.{slice_get-map}
use Rattle.std.specs.Prelude.{Some, None, Option, option_map, slice_get, ◌&&◌, ◌==◌, if◌then◌else◌}
use Rattle.pass_early.specs.Early.{is_none, is_unsaved, save_call, saved}
use Rattle.ir_model.specs.Names.{is_local}
use Rattle.ir_model.specs.Ty.{Ty}
use Rattle.ir_model.specs.declared.instr.Instr.{Instr}
use Rattle.ir_model.specs.declared.module.Block.{Block}
use Rattle.ir_model.specs.declared.operand.Arg.{Arg}
use Rattle.ir_model.specs.declared.operand.Callee.{Callee}
use Rattle.ir_model.specs.declared.operand.Intrinsic.{Intrinsic}
use Rattle.ir_model.specs.declared.operand.Operand.{Operand}
use Rattle.rule_laws.proofs.ir_paths.Search.{both, eq_from, eq_itself}
use Rattle.rule_laws.specs.ir_paths.Windows.{call_operand, is_call_of, is_suspend_of, points_from, points_in}
use Rattle.rule_laws.specs.ir_paths.declared.point.Point.{Point}
use Rattle.pass_early_proof.proofs.early.saves.Instrs.{name_at}
use Rattle.rule_laws.specs.run_laws.changed.Changed.{Each}
use Rattle.pass_early_proof.proofs.early.saves.Points.{IsOfOwn, points_append}
use Rattle.rule_laws.proofs.ir_laws.paths.expanded.Points.{shift_in, shifted}
use Rattle.pass_early_proof.specs.early.saves.SavesWritten.{behind_save, behind_saves, is_bare, saved_blocks, with_save, with_saves}
use Rattle.rule_laws.specs.ir_laws.facts.expanded.Spots.{instrs_in}
use Rattle.pass_early_proof.specs.early.saves.Spots.{number_of_block, place_in}
use Rattle.rule_laws.specs.ir_laws.paths.expanded.Tokens.{HasNamedToken}
use Rattle.rule_laws.specs.ir_laws.facts.expanded.Tokens.{IsNamed, IsNamedResult}
use Rattle.rule_laws.proofs.ir_laws.facts.Truth.{other_name}

-- ---- a suspend whose save isn't written

pub none_is : (x : Operand) → is_none x ≡ true → x ≡ Operand.None
none_is Operand.None e = refl
none_is _ e = absurd (cc)

pub record IsUnsaved (i : Instr) : Type 0 where
  pub result : Option ℕ
  pub must_tail : Bool
  pub ty : Option Ty
  pub token : Ty
  pub args : List Arg
  pub is : i ≡ Instr.Call result must_tail ty (Callee.Intrinsic Intrinsic.CoroSuspend) (record { ty = token; value = Operand.None } ∷ args)

pub unsaved_is : (i : Instr) → is_unsaved i ≡ true → IsUnsaved i
unsaved_is (Instr.Call result must_tail ty (Callee.Intrinsic Intrinsic.CoroSuspend) []) e = absurd (cc)
unsaved_is (Instr.Call result must_tail ty (Callee.Intrinsic Intrinsic.CoroSuspend) (a ∷ args)) e =
    let none = none_is a.value e in
    record {
      result = result;
      must_tail = must_tail;
      ty = ty;
      token = a.ty;
      args = args;
      is = λ j. Instr.Call result must_tail ty (Callee.Intrinsic Intrinsic.CoroSuspend) (record { ty = a.ty; value = none j } ∷ args);
    }
unsaved_is _ e = absurd (cc)

pub bare_is : (c : Bool) (i : Instr) → is_bare c i ≡ true → IsUnsaved i
bare_is c i e = unsaved_is i (both c (is_unsaved i) e).1

pub smaller_name : (m v : ℕ) → m < v → (m == v) ≡ false
smaller_name m v lt = on (m == v) refl
  where
    on : (b : Bool) → (m == v) ≡ b → (m == v) ≡ false
    on true e = let same = eq_from m v e in absurd (omega arith)
    on false e = e

not_both : (a b : Bool) → b ≡ false → (a && b) ≡ false
not_both true b e = e
not_both false b e = refl

-- what is one of the names is no later name
later_local : (n m : ℕ) (x : Operand) → n ≤ m → IsNamed n x → is_local m x ≡ false
later_local n m (Operand.Local v) le h = other_name m v (omega arith)
later_local n m _ le h = refl

-- the token of a written save is taken by none of the instructions
no_later : (n m : ℕ) (i : Instr) → n ≤ m → HasNamedToken n i → is_suspend_of (Some m) i ≡ false
no_later n m i le h = not_both (is_call_of Intrinsic.CoroSuspend i) (is_local m (call_operand i 0)) (later_local n m (call_operand i 0) le h.token)

-- a suspend with a written save takes that token alone
saved_takes : (n m : ℕ) (i : Instr) → is_unsaved i ≡ true → is_suspend_of (Some m) (saved n i) ≡ (m == n)
saved_takes n m i e =
    let is = unsaved_is i e in
    ap (λ (x : Instr). is_suspend_of (Some m) (saved n x)) is.is

-- what tests of a token of the function's own say of what an instruction becomes
pub own_token : (c : Bool) (r : Option ℕ) (least n : ℕ) (i : Instr) → IsNamedResult least r → least ≤ n → IsOfOwn c (is_suspend_of r) (is_suspend_of r) n i
own_token c None least n i h le = record { save = λ e. refl; saved_one = λ e. refl; lone = λ e. refl }
own_token c (Some v) least n i h le = record {
  save = λ e. refl;
  saved_one = λ e.
      let is = bare_is c i e in
      saved_takes n v i (both c (is_unsaved i) e).1
      ∙ smaller_name v n (omega arith)
      ∙ sym (ap (is_suspend_of (Some v)) is.is);
  lone = λ e. refl;
}

-- ---- the suspend of a written save

module _ (c : Bool) (least : ℕ) where
  name_more : (k n : ℕ) (is : List Instr) → n ≤ name_at c k n is
  name_more zero n is = omega arith
  name_more (suc k) n [] = omega arith
  name_more (suc k) n (i ∷ is) =
      let again = name_more k (behind_save c n i) is in
      let step = save_more n i in
      omega (arith, again, step)
    where
      save_more : (n : ℕ) (i : Instr) → n ≤ behind_save c n i
      save_more n i = on (is_bare c i)
        where
          on : (b : Bool) → n ≤ (if b then n + 1 else n)
          on true = omega arith
          on false = omega arith

  -- a name behind those of the saves that are written is the token of none of what an instruction becomes
  group_without : (n m : ℕ) (i : Instr) → least ≤ n → HasNamedToken least i → behind_save c n i ≤ m → (block at : ℕ) → points_from (is_suspend_of (Some m)) block at (with_save c n i) ≡ []
  group_without n m i le h behind block at = on (is_bare c i) refl behind
    where
      on : (b : Bool) → is_bare c i ≡ b → (if b then n + 1 else n) ≤ m → points_from (is_suspend_of (Some m)) block at (if b then save_call n ∷ saved n i ∷ [] else i ∷ []) ≡ []
      on true e lt =
          ap (λ (t : Bool). if t then record { block = block; at = suc at } ∷ [] else [])
          (saved_takes n m i (both c (is_unsaved i) e).1 ∙ other_name m n (omega arith))
      on false e lt = ap (λ (t : Bool). if t then record { block = block; at = at } ∷ [] else []) (no_later least m i (omega arith) h)

  save_least : (n : ℕ) (i : Instr) → least ≤ n → least ≤ behind_save c n i
  save_least n i le = on (is_bare c i)
    where
      on : (b : Bool) → least ≤ (if b then n + 1 else n)
      on true = omega arith
      on false = le

  pub behind_more : (n : ℕ) (is : List Instr) → n ≤ behind_saves c n is
  behind_more n [] = omega arith
  behind_more n (i ∷ is) =
      let again = behind_more (behind_save c n i) is in
      let step = on (is_bare c i) in
      omega (arith, again, step)
    where
      on : (b : Bool) → n ≤ (if b then n + 1 else n)
      on true = omega arith
      on false = omega arith

  -- nor of what a block becomes
  block_without : (n m : ℕ) (is : List Instr) → least ≤ n → Each (HasNamedToken least) is → behind_saves c n is ≤ m → (block at : ℕ) → points_from (is_suspend_of (Some m)) block at (with_saves c n is) ≡ []
  block_without n m [] le h behind block at = refl
  block_without n m (i ∷ is) le h behind block at =
      let own = behind_more (behind_save c n i) is in
      let first = group_without n m i le h.0 (omega (arith, own, behind)) block at in
      let rest = block_without (behind_save c n i) m is (save_least n i le) h.1 behind block (at + length (with_save c n i)) in
      points_append (is_suspend_of (Some m)) block at (with_save c n i) (with_saves c (behind_save c n i) is) ∙ (λ j. first j ++ rest j)

  head_left : (ps qs : List Point) (p : Point) → slice_get ps 0 ≡ Some p → slice_get (ps ++ qs) 0 ≡ Some p
  head_left [] qs p e = absurd (cc)
  head_left (x ∷ ps) qs p e = e

  first_save : (n : ℕ) (i : Instr) (is : List Instr) → is_bare c i ≡ true → (block at : ℕ) → slice_get (points_from (is_suspend_of (Some n)) block at (with_save c n i ++ is)) 0 ≡ Some (record { block = block; at = suc at })
  first_save n i is e block at =
      ap (λ (b : Bool). slice_get (points_from (is_suspend_of (Some n)) block at ((if b then save_call n ∷ saved n i ∷ [] else i ∷ []) ++ is)) 0) e
      ∙ ap (λ (t : Bool). slice_get (if t then record { block = block; at = suc at } ∷ points_from (is_suspend_of (Some n)) block (suc (suc at)) is else points_from (is_suspend_of (Some n)) block (suc (suc at)) is) 0)
      (saved_takes n n i (both c (is_unsaved i) e).1 ∙ eq_itself n)

  -- the first suspend with the token of a written save stands right behind that save
  block_suspend : (k n : ℕ) (is : List Instr) (i : Instr) → least ≤ n → Each (HasNamedToken least) is → slice_get is k ≡ Some i → is_bare c i ≡ true → (block at : ℕ) → slice_get (points_from (is_suspend_of (Some (name_at c k n is))) block at (with_saves c n is)) 0 ≡ Some (record { block = block; at = at + (place_in c k n is + 1) })
  block_suspend k n [] i le h e b block at = absurd (cc)
  block_suspend zero n (j ∷ is) i le h e b block at =
      let same : j ≡ i = cc in
      let here : suc at ≡ at + (0 + 1) = omega arith in
      first_save n j (with_saves c (behind_save c n j) is) (ap (is_bare c) same ∙ b) block at
      ∙ ap (λ (x : ℕ). Some (record { block = block; at = x })) here
  block_suspend (suc k) n (j ∷ is) i le h e b block at =
      let m = name_at c k (behind_save c n j) is in
      let none = group_without n m j le h.0 (name_more k (behind_save c n j) is) block at in
      let next : (at + length (with_save c n j)) + (place_in c k (behind_save c n j) is + 1) ≡ at + ((length (with_save c n j) + place_in c k (behind_save c n j) is) + 1) = omega arith in
      ap (λ (ps : List Point). slice_get ps 0)
      (points_append (is_suspend_of (Some m)) block at (with_save c n j) (with_saves c (behind_save c n j) is)
      ∙ ap (λ (ps : List Point). ps ++ points_from (is_suspend_of (Some m)) block (at + length (with_save c n j)) (with_saves c (behind_save c n j) is)) none)
      ∙ block_suspend k (behind_save c n j) is i (save_least n j le) h.1 e b block (at + length (with_save c n j))
      ∙ ap (λ (x : ℕ). Some (record { block = block; at = x })) next

  abbrev name_in : ℕ → ℕ → ℕ → List Block → ℕ
  name_in block k n bs = name_at c k (number_of_block c block n bs) (instrs_in (slice_get bs block))

  name_below : (block k n : ℕ) (bs : List Block) → n ≤ name_in block k n bs
  name_below zero k n bs = name_more k n (instrs_in (slice_get bs 0))
  name_below (suc block) k n [] = name_more k n []
  name_below (suc block) k n (b ∷ bs) =
      let again = name_below block k (behind_saves c n b.instrs) bs in
      let step = behind_more n b.instrs in
      omega (arith, again, step)

  pub written_suspend : (block k n : ℕ) (bs : List Block) (i : Instr) → least ≤ n → Each (λ (b : Block). Each (HasNamedToken least) b.instrs) bs → slice_get (instrs_in (slice_get bs block)) k ≡ Some i → is_bare c i ≡ true → slice_get (points_in (is_suspend_of (Some (name_in block k n bs))) 0 (saved_blocks c n bs)) 0 ≡ Some (record { block = block; at = place_in c k (number_of_block c block n bs) (instrs_in (slice_get bs block)) + 1 })
  written_suspend block k n [] i le h e b = absurd (cc)
  written_suspend zero k n (x ∷ bs) i le h e b =
      let z : 0 + (place_in c k n x.instrs + 1) ≡ place_in c k n x.instrs + 1 = omega arith in
      head_left _ (points_in (is_suspend_of (Some (name_at c k n x.instrs))) 1 (saved_blocks c (behind_saves c n x.instrs) bs)) _ (block_suspend k n x.instrs i le h.0 e b 0 0)
      ∙ ap (λ (y : ℕ). Some (record { block = 0; at = y })) z
  written_suspend (suc block) k n (x ∷ bs) i le h e b =
      let m = name_in block k (behind_saves c n x.instrs) bs in
      let none = block_without n m x.instrs le h.0 (name_below block k (behind_saves c n x.instrs) bs) 0 0 in
      let more = behind_more n x.instrs in
      ap (λ (ps : List Point). slice_get (ps ++ points_in (is_suspend_of (Some m)) 1 (saved_blocks c (behind_saves c n x.instrs) bs)) 0) none
      ∙ ap (λ (ps : List Point). slice_get ps 0) (shift_in (is_suspend_of (Some m)) 0 (saved_blocks c (behind_saves c n x.instrs) bs))
      ∙ slice_get-map shifted (points_in (is_suspend_of (Some m)) 0 (saved_blocks c (behind_saves c n x.instrs) bs)) 0
      ∙ ap (option_map shifted) (written_suspend block k (behind_saves c n x.instrs) bs i (omega (arith, more)) h.1 e b)
