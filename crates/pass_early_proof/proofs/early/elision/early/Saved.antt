-- Elidable coroutines whose saves are written out.
use Rattle.std.proofs.Common.{◌≡◌, ℕ, zero, suc, ◌+◌, ◌<◌, ◌≤◌, Bool, true, false, cond, List, [], ◌∷◌, ◌++◌, length, Some, None, Option, refl, sym, ap, ◌∙◌, subst, ◌↔◌, arith, ⊎_elim}
use Rattle.std.proofs.lemmas.Bool.{cases_lt, eqb-false, eqb-true}
use Rattle.std.proofs.lemmas.Option.{slice_get_within}
use Rattle.std.specs.List.{list_all, list_any}
use Rattle.std.specs.Prelude.{count_by, find, flat_map, map, option_and_then, option_map, slice_get, ◌-◌, ◌&&◌, ◌||◌, ◌==◌, if◌then◌else◌}
use Rattle.rule_laws.specs.flow_blocks.Kinds.{kind_in, kind_of, kind_of_ending, suspended}
use Rattle.rule_laws.specs.ir_calls.Calls.{is_null}
use Rattle.rule_laws.specs.rule_shape.Uses.{block_operands, phi_operands, uses_of}
use Rattle.rule_laws.proofs.ir_laws.facts.Truth.{itself, other_number}
use Rattle.pass_early_proof.proofs.early.elision.early.Alike.{AreAlike, AreBlocksAlike, AreNextAlike, IsBlockAlike, IsCallAlike, IsFreeAlike, IsNextAlike, IsPhiAlike, elidable_same, given_alike, last_sides}
use Rattle.rule_laws.proofs.ir_laws.facts.Lists.{count_both, count_cons, found, map_none, place_end, place_order}
use Rattle.rule_laws.proofs.ir_laws.paths.alike_functions.Lists.{each_where}
use Rattle.pass_early_proof.proofs.early.elision.early.Named.{call_made, each_at, each_by, made_named}
use Rattle.pass_early.specs.Early.{save_call, saved}
use Rattle.elide_sites.specs.elide_shape.Calls.{deals_by, gives_size, is_other, is_size_value, is_without_phis, one_other, only_call, passing}
use Rattle.elide_sites.specs.elide_shape.Edges.{edges_by, edges_of, edges_out, jumps_to, ways_on}
use Rattle.elide_sites.specs.elide_shape.Frames.{all_from, frame_value, is_frame, returns_frame}
use Rattle.elide_sites.specs.elide_shape.Frees.{is_null_test, not_null_first, releases, sides_of}
use Rattle.elide_sites.specs.elide_shape.Guard.{takes_second, value_if_sized}
use Rattle.elide_sites.specs.elide_shape.Phis.{given, is_given, same_given}
use Rattle.elide_sites.specs.elide_shape.declared.calls.Dealing.{Dealing}
use Rattle.elide_sites.specs.Destroyed.{has_at, has_in, is_free, is_stop}
use Rattle.elide_sites.specs.Elidable.{IsElidable}
use Rattle.rule_laws.specs.ir_parts.Contents.{ending_operands, instr_operands}
use Rattle.ir_model.specs.Calls.{result_of_call}
use Rattle.ir_model.specs.Names.{is_local}
use Rattle.ir_model.specs.declared.instr.Instr.{Instr}
use Rattle.ir_model.specs.declared.instr.Phi.{Phi}
use Rattle.ir_model.specs.declared.instr.Terminator.{Terminator}
use Rattle.ir_model.specs.declared.module.Block.{Block}
use Rattle.ir_model.specs.declared.module.Function.{Function}
use Rattle.ir_model.specs.declared.operand.Intrinsic.{Intrinsic}
use Rattle.ir_model.specs.declared.operand.Operand.{Operand}
use Rattle.rule_laws.specs.ir_paths.Paths.{targets}
use Rattle.rule_laws.specs.ir_paths.Windows.{call_operand, call_result, instr_at, instr_in, is_call_of, points_where}
use Rattle.rule_laws.specs.ir_paths.declared.point.Point.{Point}
use Rattle.pass_early_proof.proofs.early.saves.Behind.{any_saved, end_saved}
use Rattle.pass_early_proof.proofs.early.saves.Blocks.{get_block, position_saved}
use Rattle.pass_early_proof.proofs.early.saves.Instrs.{get_lone, get_save, get_then, instr_then, next_place}
use Rattle.pass_early_proof.proofs.early.saves.Parts.{at_back}
use Rattle.pass_early_proof.proofs.early.saves.Points.{own_group, points_moved}
use Rattle.pass_early_proof.proofs.early.saves.Saves.{each_trivial}
use Rattle.pass_early_proof.proofs.early.saves.Tokens.{bare_is}
use Rattle.rule_laws.proofs.ir_laws.paths.expanded.Windows.{instr_at_is}
use Rattle.pass_early_proof.specs.early.saves.SavesWritten.{behind_save, behind_saves, is_bare, saved_block, saved_blocks, saved_function, with_save, with_saves}
use Rattle.pass_early_proof.specs.early.saves.Spots.{back_of, number_of_block, own_saves, place_in}
use Rattle.rule_laws.specs.ir_laws.facts.expanded.Spots.{instrs_in}
use Rattle.rule_laws.specs.run_laws.changed.Changed.{Each}
use Rattle.rule_laws.specs.ir_laws.facts.sound_states.Named.{HasNamedLocals}

-- ---- a suspend whose save is written

pub bare_call : (c : Bool) (n : ℕ) (i : Instr) (k : Intrinsic) → is_bare c i ≡ true → is_call_of k (saved n i) ≡ is_call_of k i
bare_call c n i k e = let is = bare_is c i e in ap (λ (x : Instr). is_call_of k (saved n x)) is.is ∙ sym (ap (is_call_of k) is.is)

bare_result : (c : Bool) (n : ℕ) (i : Instr) → is_bare c i ≡ true → call_result (saved n i) ≡ call_result i
bare_result c n i e = let is = bare_is c i e in ap (λ (x : Instr). call_result (saved n x)) is.is ∙ sym (ap call_result is.is)

bare_suspended : (c : Bool) (n : ℕ) (i : Instr) → is_bare c i ≡ true → result_of_call Intrinsic.CoroSuspend (saved n i) ≡ result_of_call Intrinsic.CoroSuspend i
bare_suspended c n i e = let is = bare_is c i e in ap (λ (x : Instr). result_of_call Intrinsic.CoroSuspend (saved n x)) is.is ∙ sym (ap (result_of_call Intrinsic.CoroSuspend) is.is)

bare_deals : (c : Bool) (i : Instr) (d : Dealing) → is_bare c i ≡ true → deals_by d i ≡ false
bare_deals c i d e = let is = bare_is c i e in ap (deals_by d) is.is

bare_other : (c : Bool) (i : Instr) → is_bare c i ≡ true → is_other i ≡ true
bare_other c i e = let is = bare_is c i e in ap is_other is.is

saved_other : (c : Bool) (n : ℕ) (i : Instr) → is_bare c i ≡ true → is_other (saved n i) ≡ true
saved_other c n i e = let is = bare_is c i e in ap (λ (x : Instr). is_other (saved n x)) is.is

bare_begin : (c : Bool) (i : Instr) → is_bare c i ≡ true → is_call_of Intrinsic.CoroBegin i ≡ false
bare_begin c i e = let is = bare_is c i e in ap (is_call_of Intrinsic.CoroBegin) is.is

bare_frame : (c : Bool) (i : Instr) → is_bare c i ≡ true → frame_value i ≡ []
bare_frame c i e = let is = bare_is c i e in ap frame_value is.is

saved_frame : (c : Bool) (n : ℕ) (i : Instr) → is_bare c i ≡ true → frame_value (saved n i) ≡ []
saved_frame c n i e = let is = bare_is c i e in ap (λ (x : Instr). frame_value (saved n x)) is.is

bare_sides : (c : Bool) (i : Instr) (f : Function) (v : ℕ) (t : Terminator) → is_bare c i ≡ true → sides_of f v (Some i) t ≡ None
bare_sides c i f v t e = let is = bare_is c i e in ap (λ (x : Instr). sides_of f v (Some x) t) is.is

bare_uses : (c : Bool) (n : ℕ) (i : Instr) (v : ℕ) → v < n → is_bare c i ≡ true → count_by (is_local v) (instr_operands (saved n i)) ≡ count_by (is_local v) (instr_operands i)
bare_uses c n i v lt e =
    let is = bare_is c i e in
    let rest = map (λ (a : Rattle.ir_model.specs.declared.operand.Arg.Arg). a.value) is.args in
    ap (λ (x : Instr). count_by (is_local v) (instr_operands (saved n x))) is.is
    ∙ count_cons (is_local v) (Operand.Local n) rest
    ∙ ap (λ (b : Bool). cond b 1 0 + count_by (is_local v) rest) (other_number v n lt)
    ∙ sym (count_cons (is_local v) Operand.None rest)
    ∙ sym (ap (λ (x : Instr). count_by (is_local v) (instr_operands x)) is.is)

-- ---- lists

more : (c : Bool) (least n : ℕ) (i : Instr) → least ≤ n → least ≤ behind_save c n i
more c least n i le = on (is_bare c i)
  where
    on : (b : Bool) → least ≤ (if b then n + 1 else n)
    on true = omega arith
    on false = le

more_all : (c : Bool) (least n : ℕ) (is : List Instr) → least ≤ n → least ≤ behind_saves c n is
more_all c least n [] le = le
more_all c least n (i ∷ is) le = more_all c least (behind_save c n i) is (more c least n i le)

begin_found : (c : Bool) (n : ℕ) (is : List Instr) → find (is_call_of Intrinsic.CoroBegin) (with_saves c n is) ≡ find (is_call_of Intrinsic.CoroBegin) is
begin_found c n [] = refl
begin_found c n (i ∷ is) = on (is_bare c i) refl (begin_found c (behind_save c n i) is)
  where
    on : (b : Bool) → is_bare c i ≡ b → find (is_call_of Intrinsic.CoroBegin) (with_saves c (behind_save c n i) is) ≡ find (is_call_of Intrinsic.CoroBegin) is → find (is_call_of Intrinsic.CoroBegin) ((if b then save_call n ∷ saved n i ∷ [] else i ∷ []) ++ with_saves c (behind_save c n i) is) ≡ cond (is_call_of Intrinsic.CoroBegin i) (Some i) (find (is_call_of Intrinsic.CoroBegin) is)
    on true e again =
        (λ k. cond ((bare_call c n i Intrinsic.CoroBegin e ∙ bare_begin c i e) k) (Some (saved n i)) (again k))
        ∙ sym (ap (λ (b : Bool). cond b (Some i) (find (is_call_of Intrinsic.CoroBegin) is)) (bare_begin c i e))
    on false e again = ap (λ (o : Option Instr). cond (is_call_of Intrinsic.CoroBegin i) (Some i) o) again

-- ---- the one instruction that is no call of coro.size

others : List Instr → ℕ
others [] = 0
others (i ∷ is) = cond (is_other i) (suc (others is)) (others is)

others_are : (is : List Instr) → count_by is_other is ≡ others is
unfolding others
others_are [] = refl
others_are (i ∷ is) = count_cons is_other i is ∙ on (is_other i) (others_are is)
  where
    on : (b : Bool) → count_by is_other is ≡ others is → cond b 1 0 + count_by is_other is ≡ cond b (suc (others is)) (others is)
    on true e = omega (arith, e)
    on false e = omega (arith, e)

is_zero : ℕ → Bool
is_zero zero = true
is_zero (suc n) = false

one_suc : (n : ℕ) → (suc n == 1) ≡ is_zero n
unfolding is_zero
one_suc zero = refl
one_suc (suc n) = on (suc (suc n) == 1) refl
  where
    on : (b : Bool) → (suc (suc n) == 1) ≡ b → b ≡ false
    on true e = let same = eqb-true (suc (suc n)) 1 e in absurd (omega (arith, same))
    on false e = refl

zero_same : (c : Bool) (n : ℕ) (is : List Instr) → is_zero (others (with_saves c n is)) ≡ is_zero (others is)
unfolding others is_zero
zero_same c n [] = refl
zero_same c n (i ∷ is) = on (is_bare c i) refl (zero_same c (behind_save c n i) is)
  where
    both : (b : Bool) (k m : ℕ) → is_zero k ≡ is_zero m → is_zero (cond b (suc k) k) ≡ is_zero (cond b (suc m) m)
    both true k m e = refl
    both false k m e = e

    on : (b : Bool) → is_bare c i ≡ b → is_zero (others (with_saves c (behind_save c n i) is)) ≡ is_zero (others is) → is_zero (others ((if b then save_call n ∷ saved n i ∷ [] else i ∷ []) ++ with_saves c (behind_save c n i) is)) ≡ is_zero (cond (is_other i) (suc (others is)) (others is))
    on true e again = sym (ap (λ (b : Bool). is_zero (cond b (suc (others is)) (others is))) (bare_other c i e))
    on false e again = both (is_other i) (others (with_saves c (behind_save c n i) is)) (others is) again

abbrev one_of : Dealing → Bool → Option Instr → Option Instr
one_of d b o = passing (deals_by d) (if b then o else None)

one_same : (c : Bool) (d : Dealing) (n : ℕ) (is : List Instr) → one_of d (others (with_saves c n is) == 1) (find is_other (with_saves c n is)) ≡ one_of d (others is == 1) (find is_other is)
unfolding others is_zero
one_same c d n [] = refl
one_same c d n (i ∷ is) = on (is_bare c i) refl (one_same c d (behind_save c n i) is) (zero_same c (behind_save c n i) is)
  where
    none : (b : Bool) → one_of d b (Some i) ≡ (if b then (if deals_by d i then Some i else None) else None)
    none true = refl
    none false = refl

    lone : (b : Bool) → one_of d (others (with_saves c (behind_save c n i) is) == 1) (find is_other (with_saves c (behind_save c n i) is)) ≡ one_of d (others is == 1) (find is_other is) → is_zero (others (with_saves c (behind_save c n i) is)) ≡ is_zero (others is) → one_of d (cond b (suc (others (with_saves c (behind_save c n i) is))) (others (with_saves c (behind_save c n i) is)) == 1) (cond b (Some i) (find is_other (with_saves c (behind_save c n i) is))) ≡ one_of d (cond b (suc (others is)) (others is) == 1) (cond b (Some i) (find is_other is))
    lone true again zeros = ap (λ (b : Bool). one_of d b (Some i)) (one_suc (others (with_saves c (behind_save c n i) is)) ∙ zeros ∙ sym (one_suc (others is)))
    lone false again zeros = again

    bare_none : is_bare c i ≡ true → (b : Bool) → one_of d b (Some i) ≡ None
    bare_none e true = ap (λ (b : Bool). if b then Some i else None) (bare_deals c i d e)
    bare_none e false = refl

    two : (o : Option Instr) → (k : ℕ) → one_of d (suc (suc k) == 1) o ≡ None
    two o k = ap (λ (b : Bool). one_of d b o) (one_suc (suc k))

    on : (b : Bool) → is_bare c i ≡ b → one_of d (others (with_saves c (behind_save c n i) is) == 1) (find is_other (with_saves c (behind_save c n i) is)) ≡ one_of d (others is == 1) (find is_other is) → is_zero (others (with_saves c (behind_save c n i) is)) ≡ is_zero (others is) → one_of d (others ((if b then save_call n ∷ saved n i ∷ [] else i ∷ []) ++ (with_saves c (behind_save c n i) is)) == 1) (find is_other ((if b then save_call n ∷ saved n i ∷ [] else i ∷ []) ++ (with_saves c (behind_save c n i) is))) ≡ one_of d (cond (is_other i) (suc (others is)) (others is) == 1) (cond (is_other i) (Some i) (find is_other is))
    on true e again zeros =
        ap (λ (b : Bool). one_of d (suc (cond b (suc (others (with_saves c (behind_save c n i) is))) (others (with_saves c (behind_save c n i) is))) == 1) (Some (save_call n))) (saved_other c n i e)
        ∙ two (Some (save_call n)) (others (with_saves c (behind_save c n i) is))
        ∙ sym (bare_none e (suc (others is) == 1))
        ∙ sym (ap (λ (b : Bool). one_of d (cond b (suc (others is)) (others is) == 1) (cond b (Some i) (find is_other is))) (bare_other c i e))
    on false e again zeros = lone (is_other i) again zeros

pub only_saved : (c : Bool) (n : ℕ) (d : Dealing) (b : Block) → only_call d (saved_block c n b) ≡ only_call d b
only_saved c n d b =
    ap (λ (o : Option Instr). if is_without_phis b.phis then o else None)
    (ap (λ (k : ℕ). one_of d (k == 1) (find is_other (with_saves c n b.instrs))) (others_are (with_saves c n b.instrs))
    ∙ one_same c d n b.instrs
    ∙ sym (ap (λ (k : ℕ). one_of d (k == 1) (find is_other b.instrs)) (others_are b.instrs)))

-- ---- a function whose saves are written out

module _ (f : Function) (locals : HasNamedLocals f) where
  abbrev c : Bool
  c = f.coroutine

  abbrev least : ℕ
  least = length f.names

  abbrev g : Function
  g = saved_function f

  abbrev IsName : ℕ → Type 0
  IsName v = v < least

  abbrev number : ℕ → ℕ
  number block = number_of_block c block least f.blocks

  block_same : (k : ℕ) → slice_get g.blocks k ≡ option_map (saved_block c (number k)) (slice_get f.blocks k)
  block_same k = get_block c k least f.blocks

  -- ---- uses

  one_uses : (v : ℕ) → v < least → (n : ℕ) → least ≤ n → (i : Instr) → count_by (is_local v) (flat_map instr_operands (with_save c n i)) ≡ count_by (is_local v) (instr_operands i)
  one_uses v lt n le i = on (is_bare c i) refl
    where
      null : count_by (is_local v) (Operand.Null ∷ []) ≡ 0
      null = count_cons (is_local v) Operand.Null []

      alone : (x : Instr) → count_by (is_local v) (instr_operands x ++ []) ≡ count_by (is_local v) (instr_operands x)
      alone x = let e = count_both (is_local v) (instr_operands x) [] in e ∙ omega arith

      on : (b : Bool) → is_bare c i ≡ b → count_by (is_local v) (flat_map instr_operands (if b then save_call n ∷ saved n i ∷ [] else i ∷ [])) ≡ count_by (is_local v) (instr_operands i)
      on true e =
          (let e = count_cons (is_local v) Operand.Null (instr_operands (saved n i) ++ []) in e ∙ omega arith)
          ∙ alone (saved n i)
          ∙ bare_uses c n i v (omega (arith, lt, le)) e
      on false e = alone i

  flat_both : (xs ys : List Instr) (v : ℕ) → count_by (is_local v) (flat_map instr_operands (xs ++ ys)) ≡ count_by (is_local v) (flat_map instr_operands xs) + count_by (is_local v) (flat_map instr_operands ys)
  flat_both [] ys v = omega arith
  flat_both (x ∷ xs) ys v =
      let a = count_both (is_local v) (instr_operands x) (flat_map instr_operands (xs ++ ys)) in
      let b = count_both (is_local v) (instr_operands x) (flat_map instr_operands xs) in
      let rest = flat_both xs ys v in
      omega (arith, a, b, rest)

  instrs_uses : (v : ℕ) → v < least → (n : ℕ) → least ≤ n → (is : List Instr) → count_by (is_local v) (flat_map instr_operands (with_saves c n is)) ≡ count_by (is_local v) (flat_map instr_operands is)
  instrs_uses v lt n le [] = refl
  instrs_uses v lt n le (i ∷ is) =
      flat_both (with_save c n i) (with_saves c (behind_save c n i) is) v
      ∙ (λ k. one_uses v lt n le i k + instrs_uses v lt (behind_save c n i) (more c least n i le) is k)
      ∙ sym (count_both (is_local v) (instr_operands i) (flat_map instr_operands is))

  block_uses : (v : ℕ) → v < least → (n : ℕ) → least ≤ n → (b : Block) → count_by (is_local v) (block_operands (saved_block c n b)) ≡ count_by (is_local v) (block_operands b)
  block_uses v lt n le b =
      let phis = flat_map phi_operands b.phis in
      let old = flat_map instr_operands b.instrs in
      let new = flat_map instr_operands (with_saves c n b.instrs) in
      let last = ending_operands b.term in
      count_both (is_local v) phis (new ++ last)
      ∙ ap (λ (k : ℕ). count_by (is_local v) phis + k) (count_both (is_local v) new last ∙ ap (λ (k : ℕ). k + count_by (is_local v) last) (instrs_uses v lt n le b.instrs) ∙ sym (count_both (is_local v) old last))
      ∙ sym (count_both (is_local v) phis (old ++ last))

  blocks_uses : (v : ℕ) → v < least → (n : ℕ) → least ≤ n → (bs : List Block) → count_by (is_local v) (flat_map block_operands (saved_blocks c n bs)) ≡ count_by (is_local v) (flat_map block_operands bs)
  blocks_uses v lt n le [] = refl
  blocks_uses v lt n le (b ∷ bs) =
      count_both (is_local v) (block_operands (saved_block c n b)) (flat_map block_operands (saved_blocks c (behind_saves c n b.instrs) bs))
      ∙ (λ k. block_uses v lt n le b k + blocks_uses v lt (behind_saves c n b.instrs) (more_all c least n b.instrs le) bs k)
      ∙ sym (count_both (is_local v) (block_operands b) (flat_map block_operands bs))

  uses_same : (v : ℕ) → IsName v → uses_of g v ≡ uses_of f v
  uses_same v lt = blocks_uses v lt least (omega arith) f.blocks

  -- ---- edges

  then_suspended : (k n : ℕ) (is : List Instr) (o : Option Instr) → option_and_then (result_of_call Intrinsic.CoroSuspend) (instr_then c k n is o) ≡ option_and_then (result_of_call Intrinsic.CoroSuspend) o
  then_suspended k n is None = refl
  then_suspended k n is (Some i) = on (is_bare c i) refl
    where
      on : (b : Bool) → is_bare c i ≡ b
          → result_of_call Intrinsic.CoroSuspend
          (if b then saved (Rattle.pass_early_proof.proofs.early.saves.Instrs.name_at c k n is) i else i) ≡ result_of_call
          Intrinsic.CoroSuspend i
      on true e = bare_suspended c (Rattle.pass_early_proof.proofs.early.saves.Instrs.name_at c k n is) i e
      on false e = refl

  suspended_same : (n : ℕ) (is : List Instr) → suspended (with_saves c n is) ≡ suspended is
  suspended_same n [] = refl
  suspended_same n (i ∷ is) =
      let k = length is in
      let place = place_in c k n (i ∷ is) + own_saves c (slice_get (i ∷ is) k) in
      let next = next_place c k n (i ∷ is) in
      let end = place_end (with_save c) (behind_save c) n (i ∷ is) in
      let last : length (with_saves c n (i ∷ is)) - 1 ≡ place = omega (arith, next, end) in
      let first : suc k - 1 ≡ k = omega arith in
      ap (λ (x : ℕ). option_and_then (result_of_call Intrinsic.CoroSuspend) (slice_get (with_saves c n (i ∷ is)) x)) last
      ∙ ap (option_and_then (result_of_call Intrinsic.CoroSuspend)) (get_then c k n (i ∷ is))
      ∙ then_suspended k n (i ∷ is) (slice_get (i ∷ is) k)
      ∙ sym (ap (λ (x : ℕ). option_and_then (result_of_call Intrinsic.CoroSuspend) (slice_get (i ∷ is) x)) first)

  kind_same : (k at : ℕ) → kind_of g k at ≡ kind_of f k at
  kind_same k at = ap (λ (o : Option Block). kind_in o at) (block_same k) ∙ on (slice_get f.blocks k)
    where
      on : (o : Option Block) → kind_in (option_map (saved_block c (number k)) o) at ≡ kind_in o at
      on None = refl
      on (Some b) = ap (λ (v : Option ℕ). kind_of_ending v b.term at) (suspended_same (number k) b.instrs)

  out_same : (from at : ℕ) (ls : List ℕ) → edges_out g from at ls ≡ edges_out f from at ls
  out_same from at [] = refl
  out_same from at (l ∷ ls) = λ i. record { from = from; to = position_saved f l i; kind = kind_same from at i } ∷ out_same from (at + 1) ls i

  by_same : (from n : ℕ) (bs : List Block) → edges_by g from (saved_blocks c n bs) ≡ edges_by f from bs
  by_same from n [] = refl
  by_same from n (b ∷ bs) = λ i. out_same from 0 (targets b.term) i ++ by_same (from + 1) (behind_saves c n b.instrs) bs i

  edges_same : edges_of g ≡ edges_of f
  unfolding edges_of
  edges_same = by_same 0 least f.blocks

  -- ---- the values that are the frame's address

  one_frame : (n : ℕ) (i : Instr) → flat_map frame_value (with_save c n i) ≡ frame_value i
  one_frame n i = on (is_bare c i) refl
    where
      alone : (xs : List Operand) → xs ++ [] ≡ xs
      alone [] = refl
      alone (x ∷ xs) = ap (λ ys. x ∷ ys) (alone xs)

      on : (b : Bool) → is_bare c i ≡ b → flat_map frame_value (if b then save_call n ∷ saved n i ∷ [] else i ∷ []) ≡ frame_value i
      on true e = ap (λ xs. xs ++ []) (saved_frame c n i e) ∙ sym (bare_frame c i e)
      on false e = alone (frame_value i)

  flat_append : (xs ys : List Instr) → flat_map frame_value (xs ++ ys) ≡ flat_map frame_value xs ++ flat_map frame_value ys
  flat_append [] ys = refl
  flat_append (x ∷ xs) ys = ap (λ zs. frame_value x ++ zs) (flat_append xs ys) ∙ sym (behind (frame_value x) (flat_map frame_value xs) (flat_map frame_value ys))
    where
      behind : (a b d : List Operand) → (a ++ b) ++ d ≡ a ++ (b ++ d)
      behind [] b d = refl
      behind (x ∷ a) b d = ap (λ zs. x ∷ zs) (behind a b d)

  instrs_frame : (n : ℕ) (is : List Instr) → flat_map frame_value (with_saves c n is) ≡ flat_map frame_value is
  instrs_frame n [] = refl
  instrs_frame n (i ∷ is) = flat_append (with_save c n i) (with_saves c (behind_save c n i) is) ∙ (λ k. one_frame n i k ++ instrs_frame (behind_save c n i) is k)

  blocks_frame : (n : ℕ) (bs : List Block) → all_from frame_value (saved_blocks c n bs) ≡ all_from frame_value bs
  blocks_frame n [] = refl
  blocks_frame n (b ∷ bs) = λ k. instrs_frame n b.instrs k ++ blocks_frame (behind_saves c n b.instrs) bs k

  frame_same : (x : Operand) → is_frame g x ≡ is_frame f x
  frame_same (Operand.Local v) = ap (list_any (is_local v)) (blocks_frame least f.blocks)
  frame_same (Operand.Global n) = refl
  frame_same (Operand.Number z) = refl
  frame_same Operand.True = refl
  frame_same Operand.False = refl
  frame_same Operand.Null = refl
  frame_same Operand.None = refl
  frame_same Operand.Poison = refl

  returns_same : (t : Terminator) → returns_frame g t ≡ returns_frame f t
  returns_same (Terminator.Ret None) = refl
  returns_same (Terminator.Ret (Some a)) = frame_same a.value
  returns_same (Terminator.Jump label) = refl
  returns_same (Terminator.Branch x a b) = refl
  returns_same (Terminator.Switch arg default cases) = refl
  returns_same Terminator.Unreachable = refl

  rets_same : (n : ℕ) (bs : List Block) → list_all (λ b. returns_frame g b.term) (saved_blocks c n bs) ≡ list_all (λ b. returns_frame f b.term) bs
  rets_same n [] = refl
  rets_same n (b ∷ bs) = λ k. returns_same b.term k && rets_same (behind_saves c n b.instrs) bs k

  -- ---- tests of whole blocks

  unit_all : (is : List Instr) → Each (λ (i : Instr). Unit {0}) is
  unit_all [] = tt
  unit_all (i ∷ is) = (tt, unit_all is)

  -- a test that a written save passes only where its suspend does
  any_same : (t : Instr → Bool) → ((n : ℕ) (i : Instr) → is_bare c i ≡ true → (t (save_call n) || (t (saved n i) || false)) ≡ t i) → (n : ℕ) (is : List Instr) → list_any t (with_saves c n is) ≡ list_any t is
  any_same t h n is = any_saved c t t 0 (λ i. Unit {0}) (λ k i le p. on k i (is_bare c i) refl) is (unit_all is) n (omega arith)
    where
      alone : (a : Bool) → (a || false) ≡ a
      alone true = refl
      alone false = refl

      on : (k : ℕ) (i : Instr) (b : Bool) → is_bare c i ≡ b → list_any t (if b then save_call k ∷ saved k i ∷ [] else i ∷ []) ≡ t i
      on k i true e = h k i e
      on k i false e = alone (t i)

  free_bare : (n : ℕ) (i : Instr) → is_bare c i ≡ true → (is_free (save_call n) || (is_free (saved n i) || false)) ≡ is_free i
  free_bare n i e = let is = bare_is c i e in ap (λ (x : Instr). is_free (save_call n) || (is_free (saved n x) || false)) is.is ∙ sym (ap is_free is.is)

  stop_bare : (n : ℕ) (i : Instr) → is_bare c i ≡ true → (is_stop (save_call n) || (is_stop (saved n i) || false)) ≡ is_stop i
  stop_bare n i e = let is = bare_is c i e in ap (λ (x : Instr). is_stop (save_call n) || (is_stop (saved n x) || false)) is.is ∙ sym (ap is_stop is.is)

  size_bare : (v n : ℕ) (i : Instr) → is_bare c i ≡ true → (gives_size v (save_call n) || (gives_size v (saved n i) || false)) ≡ gives_size v i
  size_bare v n i e = let is = bare_is c i e in ap (λ (x : Instr). gives_size v (save_call n) || (gives_size v (saved n x) || false)) is.is ∙ sym (ap (gives_size v) is.is)

  has_same : (t : Instr → Bool) → ((n : ℕ) (i : Instr) → is_bare c i ≡ true → (t (save_call n) || (t (saved n i) || false)) ≡ t i) → (k : ℕ) → has_at t g k ≡ has_at t f k
  has_same t h k = ap (has_in t) (block_same k) ∙ on (slice_get f.blocks k)
    where
      on : (o : Option Block) → has_in t (option_map (saved_block c (number k)) o) ≡ has_in t o
      on None = refl
      on (Some b) = any_same t h (number k) b.instrs

  any_blocks : (v n : ℕ) (bs : List Block) → list_any (λ (b : Block). list_any (gives_size v) b.instrs) (saved_blocks c n bs) ≡ list_any (λ (b : Block). list_any (gives_size v) b.instrs) bs
  any_blocks v n [] = refl
  any_blocks v n (b ∷ bs) = λ k. any_same (gives_size v) (size_bare v) n b.instrs k || any_blocks v (behind_saves c n b.instrs) bs k

  size_value_same : (x : Operand) → is_size_value g x ≡ is_size_value f x
  size_value_same (Operand.Local v) = any_blocks v least f.blocks
  size_value_same (Operand.Global n) = refl
  size_value_same (Operand.Number z) = refl
  size_value_same Operand.True = refl
  size_value_same Operand.False = refl
  size_value_same Operand.Null = refl
  size_value_same Operand.None = refl
  size_value_same Operand.Poison = refl

  sized_same : (o : Option Instr) → value_if_sized g o ≡ value_if_sized f o
  sized_same None = refl
  sized_same (Some i) = ap (λ (b : Bool). if b then call_result i else None) (size_value_same (call_operand i 0))

  -- ---- blocks

  jumps_same : (k : ℕ) (t : Terminator) → jumps_to g k t ≡ jumps_to f k t
  jumps_same k (Terminator.Jump label) = ap (λ (n : ℕ). n == k) (position_saved f label)
  jumps_same k (Terminator.Branch x a b) = refl
  jumps_same k (Terminator.Switch arg default cases) = refl
  jumps_same k (Terminator.Ret v) = refl
  jumps_same k Terminator.Unreachable = refl

  given_same : (k : ℕ) (p : Phi) → given g k p ≡ given f k p
  given_same k p = λ j. option_map (λ i. i.value) (find (λ i. position_saved f i.from j == k) p.incoming)

  phi_alike : (p : Phi) → p.result < least → IsPhiAlike f g (back_of f) IsName (λ p. p) p
  phi_alike p lt = record {
    result = refl;
    name = lt;
    gives = λ a d. (λ j. same_given g (given_same a p j) (given_same d p j)) ∙ given_alike f g (given f a p) (given f d p) (λ x e. frame_same x) (λ x e. frame_same x);
    memory = λ a d m name. λ j. is_given is_null (given_same a p j) && (is_given (is_local m) (given_same d p j) && (uses_same m name j == count_by (is_local m) (phi_operands p)));
  }

  sized_made : (k : ℕ) (b : Block) → slice_get f.blocks k ≡ Some b → (m : ℕ) → value_if_sized f (only_call Dealing.Allocates b) ≡ Some m → m < least
  sized_made k b s m e = sized (only_call Dealing.Allocates b) refl e
    where
      one : (t : Bool) (i : Instr) → (if t then find is_other b.instrs else None) ≡ Some i → find is_other b.instrs ≡ Some i
      one true i e = e
      one false i e = absurd (cc)

      dealt : (o : Option Instr) (i : Instr) → passing (deals_by Dealing.Allocates) o ≡ Some i → o ≡ Some i
      dealt None i e = absurd (cc)
      dealt (Some x) i e = on (deals_by Dealing.Allocates x) e
        where
          on : (t : Bool) → (if t then Some x else None) ≡ Some i → Some x ≡ Some i
          on true e = e
          on false e = absurd (cc)

      phis : (t : Bool) (i : Instr) → (if t then passing (deals_by Dealing.Allocates) (one_other b.instrs) else None) ≡ Some i → find is_other b.instrs ≡ Some i
      phis true i e = one (count_by is_other b.instrs == 1) i (dealt (one_other b.instrs) i e)
      phis false i e = absurd (cc)

      result : (t : Bool) (i : Instr) → (if t then call_result i else None) ≡ Some m → call_result i ≡ Some m
      result true i e = e
      result false i e = absurd (cc)

      sized : (o : Option Instr) → only_call Dealing.Allocates b ≡ o → value_if_sized f o ≡ Some m → m < least
      sized None h e = absurd (cc)
      sized (Some i) h e =
          let there = found is_other b.instrs i (phis (is_without_phis b.phis) i h) in
          made_named f locals.results (record { block = k; at = there.at }) i m (ap (λ (x : Option Block). instr_in x there.at) s ∙ there.is) (call_made i m (result (is_size_value f (call_operand i 0)) i e))

  block_alike : (k : ℕ) (b : Block) → slice_get f.blocks k ≡ Some b → IsBlockAlike f g (back_of f) IsName (λ p. p) b (saved_block c (number k) b)
  block_alike k b e = record {
    phis = sym (map_none b.phis);
    each = each_by (λ p. p.result < least) (IsPhiAlike f g (back_of f) IsName (λ p. p)) b.phis phi_alike (each_at (λ (d : Block). Each (λ (p : Phi). p.result < least) d.phis) f.blocks k b locals.phis e);
    sized = ap (value_if_sized g) (only_saved c (number k) Dealing.Allocates b) ∙ sized_same (only_call Dealing.Allocates b);
    sized_name = sized_made k b e;
    released = λ v name. ap (releases v) (only_saved c (number k) Dealing.Frees b);
    begins = λ v name. ap (takes_second v) (begin_found c (number k) b.instrs);
    jumps = λ n. jumps_same n b.term;
    ways = λ v name. refl;
  }

  blocks_alike : (k : ℕ) → AreBlocksAlike f g (back_of f) IsName (λ p. p) (slice_get f.blocks k) (slice_get g.blocks k)
  blocks_alike k = subst (AreBlocksAlike f g (back_of f) IsName (λ p. p) (slice_get f.blocks k)) (sym (block_same k)) (on (slice_get f.blocks k) refl)
    where
      on : (o : Option Block) → slice_get f.blocks k ≡ o → AreBlocksAlike f g (back_of f) IsName (λ p. p) o (option_map (saved_block c (number k)) o)
      on None e = tt
      on (Some b) e = block_alike k b e

  -- ---- calls

  points_same : (j : Intrinsic) → ((n : ℕ) (i : Instr) → is_bare c i ≡ true → is_call_of j (save_call n) ≡ false) → points_where (is_call_of j) g ≡ map (back_of f) (points_where (is_call_of j) f)
  points_same j h =
      points_moved c (is_call_of j) (is_call_of j) (own_saves c) 0 (λ i. Unit {0})
      (λ n i le p block at. own_group c (is_call_of j) (is_call_of j) n i (record { save = h n i; saved_one = bare_call c n i j; lone = λ e. refl }) block at)
      f.blocks (each_trivial f.blocks) least (omega arith)

  then_result : (k n : ℕ) (is : List Instr) (o : Option Instr) → option_and_then call_result (instr_then c k n is o) ≡ option_and_then call_result o
  then_result k n is None = refl
  then_result k n is (Some i) = on (is_bare c i) refl
    where
      on : (b : Bool) → is_bare c i ≡ b
          → call_result (if b then saved (Rattle.pass_early_proof.proofs.early.saves.Instrs.name_at c k n is) i else i) ≡
          call_result i
      on true e = bare_result c (Rattle.pass_early_proof.proofs.early.saves.Instrs.name_at c k n is) i e
      on false e = refl

  call_alike : (p : Point) (i : Instr) → instr_at f p ≡ Some i → IsCallAlike f g (back_of f) IsName (λ p. p) p
  call_alike p i e = record {
    block = refl;
    value =
        ap (option_and_then call_result) (at_back f p)
        ∙ then_result p.at (number p.block) (instrs_in (slice_get f.blocks p.block)) (slice_get (instrs_in (slice_get f.blocks p.block)) p.at)
        ∙ sym (ap (option_and_then call_result) (instr_at_is (slice_get f.blocks p.block) p.at));
    name = λ v r. made_named f locals.results p i v e (call_made i v (sym (ap (option_and_then call_result) e) ∙ r));
  }

  -- ---- what stands after a coro.free

  own_sides : (p : Point) (i : Instr) → instr_at f p ≡ Some i → (v : ℕ) (t : Terminator) → sides_of g v (Some i) t ≡ sides_of f v (Some i) t
  own_sides p (Instr.Icmp x pred ty a b) e v t =
      let lt = made_named f locals.results p (Instr.Icmp x pred ty a b) x e refl in
      λ j. if is_null_test v a b && (uses_same x lt j == 1) then not_null_first pred (ways_on (Some x) t) else None
  own_sides p (Instr.Call result must_tail ty callee args) e v t = refl
  own_sides p (Instr.Binary name op flags ty a b) e v t = refl
  own_sides p (Instr.Select name x a b) e v t = refl
  own_sides p (Instr.Cast name op nneg arg to) e v t = refl
  own_sides p (Instr.Alloca name ty align) e v t = refl
  own_sides p (Instr.Load name ty address align) e v t = refl
  own_sides p (Instr.Store arg address align) e v t = refl
  own_sides p (Instr.Gep name inbounds ty base indices) e v t = refl

  no_sides : (t : Bool) (o : Option (ℕ × ℕ)) → o ≡ None → (if t then o else None) ≡ None
  no_sides true o e = e
  no_sides false o e = refl

  -- an instruction is the last one where what it becomes is
  last_same : (n k : ℕ) (is : List Instr) (i : Instr) → slice_get is k ≡ Some i → is_bare c i ≡ false → (place_in c k n is + 1 == length (with_saves c n is)) ≡ (k + 1 == length is)
  last_same n k is i e lone =
      let next = next_place c k n is in
      let own : own_saves c (slice_get is k) ≡ 0 = ap (own_saves c) e ∙ ap (λ (b : Bool). if b then 1 else 0) lone in
      let inside = slice_get_within is k i e in
      let place : place_in c (suc k) n is ≡ place_in c k n is + 1 = omega (arith, next, own) in
      on (k + 1 == length is) refl place inside
    where
      on : (b : Bool) → (k + 1 == length is) ≡ b → place_in c (suc k) n is ≡ place_in c k n is + 1 → k < length is → (place_in c k n is + 1 == length (with_saves c n is)) ≡ b
      on true h place inside =
          let here = eqb-true (k + 1) (length is) h in
          let at : suc k ≡ length is = omega (arith, here) in
          let end = ap (λ (l : ℕ). place_in c l n is) at ∙ place_end (with_save c) (behind_save c) n is in
          let both : place_in c k n is + 1 ≡ length (with_saves c n is) = sym place ∙ end in
          ap (λ (l : ℕ). l == length (with_saves c n is)) both ∙ itself (length (with_saves c n is))
      on false h place inside = later (place_in c k n is + 1 == length (with_saves c n is)) refl
        where
          later : (b : Bool) → (place_in c k n is + 1 == length (with_saves c n is)) ≡ b → b ≡ false
          later false e = refl
          later true e =
              let there = eqb-true (place_in c k n is + 1) (length (with_saves c n is)) e in
              let not_end : (k + 1 ≡ length is) → ⊥ = eqb-false (k + 1) (length is) h in
              absurd (⊎_elim
              (λ (lt : suc k < length is).
              let order = place_order (with_save c) (behind_save c) (suc k) (length is) n is lt in
              let end = place_end (with_save c) (behind_save c) n is in
              let step = next_place c (suc k) n is in
              omega (arith, order, end, step, place, there))
              (λ (ge : length is ≤ suc k). not_end (omega (arith, ge, inside)))
              (cases_lt (suc k) (length is)))

  next_alike : (p : Point) (b : Block) → slice_get f.blocks p.block ≡ Some b → IsNextAlike f g (back_of f) IsName (λ p. p) b (saved_block c (number p.block) b) (p.at + 1) ((back_of f p).at + 1)
  next_alike p b s = record {
    released = λ v name. ap (λ (k : ℕ). releases v (slice_get (with_saves c (number p.block) b.instrs) k)) there ∙ released v (slice_get b.instrs (suc p.at)) refl ∙ sym (ap (λ (k : ℕ). releases v (slice_get b.instrs k)) here);
    sides = λ v name. ap (last_sides g v (saved_block c (number p.block) b)) there ∙ sides v (slice_get b.instrs (suc p.at)) refl ∙ sym (ap (last_sides f v b) here);
  }
    where
      here : p.at + 1 ≡ suc p.at
      here = omega arith

      there : (back_of f p).at + 1 ≡ place_in c (suc p.at) (number p.block) b.instrs
      there =
          let next = next_place c p.at (number p.block) b.instrs in
          let place : (back_of f p).at ≡ place_in c p.at (number p.block) b.instrs + own_saves c (slice_get b.instrs p.at) = ap (λ (o : Option Block). place_in c p.at (number p.block) (instrs_in o) + own_saves c (slice_get (instrs_in o) p.at)) s in
          omega (arith, next, place)

      past : slice_get b.instrs (suc p.at) ≡ None → slice_get (with_saves c (number p.block) b.instrs) (place_in c (suc p.at) (number p.block) b.instrs) ≡ None
      past e =
          let own : own_saves c (slice_get b.instrs (suc p.at)) ≡ 0 = ap (own_saves c) e in
          let zero_more : place_in c (suc p.at) (number p.block) b.instrs ≡ place_in c (suc p.at) (number p.block) b.instrs + own_saves c (slice_get b.instrs (suc p.at)) = omega (arith, own) in
          ap (slice_get (with_saves c (number p.block) b.instrs)) zero_more
          ∙ get_then c (suc p.at) (number p.block) b.instrs
          ∙ ap (instr_then c (suc p.at) (number p.block) b.instrs) e

      released : (v : ℕ) (o : Option Instr) → slice_get b.instrs (suc p.at) ≡ o → releases v (slice_get (with_saves c (number p.block) b.instrs) (place_in c (suc p.at) (number p.block) b.instrs)) ≡ releases v (slice_get b.instrs (suc p.at))
      released v None e = ap (releases v) (past e) ∙ sym (ap (releases v) e)
      released v (Some i) e = on (is_bare c i) refl
        where
          on : (t : Bool) → is_bare c i ≡ t → releases v (slice_get (with_saves c (number p.block) b.instrs) (place_in c (suc p.at) (number p.block) b.instrs)) ≡ releases v (slice_get b.instrs (suc p.at))
          on true h =
              ap (releases v) (get_save c (suc p.at) (number p.block) b.instrs i e h)
              ∙ sym (ap (releases v) e ∙ ap (λ (t : Bool). t && is_local v (call_operand i 0)) (bare_deals c i Dealing.Frees h))
          on false h = ap (releases v) (get_lone c (suc p.at) (number p.block) b.instrs i e h ∙ sym e)

      sides : (v : ℕ) (o : Option Instr) → slice_get b.instrs (suc p.at) ≡ o → last_sides g v (saved_block c (number p.block) b) (place_in c (suc p.at) (number p.block) b.instrs) ≡ last_sides f v b (suc p.at)
      sides v None e =
          ap (λ (o : Option Instr). if place_in c (suc p.at) (number p.block) b.instrs + 1 == length (with_saves c (number p.block) b.instrs) then sides_of g v o b.term else None) (past e)
          ∙ no_sides (place_in c (suc p.at) (number p.block) b.instrs + 1 == length (with_saves c (number p.block) b.instrs)) None refl
          ∙ sym (ap (λ (o : Option Instr). if suc p.at + 1 == length b.instrs then sides_of f v o b.term else None) e ∙ no_sides (suc p.at + 1 == length b.instrs) None refl)
      sides v (Some i) e = on (is_bare c i) refl
        where
          on : (t : Bool) → is_bare c i ≡ t → last_sides g v (saved_block c (number p.block) b) (place_in c (suc p.at) (number p.block) b.instrs) ≡ last_sides f v b (suc p.at)
          on true h =
              ap (λ (o : Option Instr). if place_in c (suc p.at) (number p.block) b.instrs + 1 == length (with_saves c (number p.block) b.instrs) then sides_of g v o b.term else None) (get_save c (suc p.at) (number p.block) b.instrs i e h)
              ∙ no_sides (place_in c (suc p.at) (number p.block) b.instrs + 1 == length (with_saves c (number p.block) b.instrs)) None refl
              ∙ sym (
              ap (λ (o : Option Instr). if suc p.at + 1 == length b.instrs then sides_of f v o b.term else None) e
              ∙ ap (λ (w : Option (ℕ × ℕ)). if suc p.at + 1 == length b.instrs then w else None) (bare_sides c i f v b.term h)
              ∙ no_sides (suc p.at + 1 == length b.instrs) None refl
              )
          on false h =
              let own = own_sides (record { block = p.block; at = suc p.at }) i (ap (λ (x : Option Block). instr_in x (suc p.at)) s ∙ e) v b.term in
              ap (λ (o : Option Instr). if place_in c (suc p.at) (number p.block) b.instrs + 1 == length (with_saves c (number p.block) b.instrs) then sides_of g v o b.term else None) (get_lone c (suc p.at) (number p.block) b.instrs i e h)
              ∙ (λ j. if last_same (number p.block) (suc p.at) b.instrs i e h j then own j else None)
              ∙ sym (ap (λ (o : Option Instr). if suc p.at + 1 == length b.instrs then sides_of f v o b.term else None) e)

  free_alike : (p : Point) (i : Instr) → instr_at f p ≡ Some i → IsFreeAlike f g (back_of f) IsName (λ p. p) p
  free_alike p i e = record {
    call = call_alike p i e;
    next = subst (λ (o : Option Block). AreNextAlike f g (back_of f) IsName (λ p. p) (slice_get f.blocks p.block) o (p.at + 1) ((back_of f p).at + 1)) (sym (block_same p.block)) (on (slice_get f.blocks p.block) refl);
  }
    where
      on : (o : Option Block) → slice_get f.blocks p.block ≡ o → AreNextAlike f g (back_of f) IsName (λ p. p) o (option_map (saved_block c (number p.block)) o) (p.at + 1) ((back_of f p).at + 1)
      on None s = tt
      on (Some b) s = next_alike p b s

  saved_alike : AreAlike f g (back_of f) IsName (λ p. p)
  saved_alike = record {
    coroutine = refl;
    position = position_saved f;
    edges = edges_same;
    uses = uses_same;
    blocks = blocks_alike;
    allocs = points_same Intrinsic.CoroAlloc (λ n i e. refl);
    each_alloc = each_where (IsCallAlike f g (back_of f) IsName (λ p. p)) (is_call_of Intrinsic.CoroAlloc) f (λ p i e t. call_alike p i e);
    frees = points_same Intrinsic.CoroFree (λ n i e. refl);
    each_free = each_where (IsFreeAlike f g (back_of f) IsName (λ p. p)) (is_call_of Intrinsic.CoroFree) f (λ p i e t. free_alike p i e);
    rets = rets_same least f.blocks;
    has_free = has_same is_free free_bare;
    has_stop = has_same is_stop stop_bare;
    end = end_saved f;
  }

  pub saved_elidable : IsElidable f ↔ IsElidable g
  saved_elidable = elidable_same f g (back_of f) IsName (λ p. p) saved_alike
