-- Where values are in cells, paths without begin lead to the blocks before begin, and so they do with blocks on edges.
use Rattle.std.proofs.Common.{◌≡◌, ◌⊎◌, ⊎_elim, inl, inr, ℕ, zero, suc, ◌+◌, ◌<◌, ◌≤◌, Bool, true, false, List, []}
use Rattle.std.proofs.Common.{◌∷◌, ◌++◌, length, Option, Some, None, refl, sym, ap, ◌∙◌, subst, arith}
use Rattle.std.proofs.lemmas.Bool.{false≢true}
use Rattle.std.specs.Prelude.{codes, if◌then◌else◌, option_to_list, slice_get, ◌==◌}
use Rattle.compiler_theorem.proofs.known.Behind.{cell_keeps}
use Rattle.compiler_theorem.proofs.known.Layers.{own_index, own_stands}
use Rattle.compiler.specs.flow_solver.Paths.{IsListed}
use Rattle.compiler.proofs.ir_laws.facts.Lists.{get_within}
use Rattle.compiler.proofs.ir_laws.paths.begin_order.Framed.{get_listed}
use Rattle.compiler.specs.ir_model.declared.instr.Instr.{Instr}
use Rattle.compiler.specs.ir_model.declared.module.Block.{Block}
use Rattle.compiler.specs.ir_model.declared.module.Function.{Function}
use Rattle.compiler.specs.ir_model.declared.operand.Callee.{Callee}
use Rattle.compiler.specs.ir_model.declared.operand.Intrinsic.{Intrinsic}
use Rattle.compiler.specs.ir_parts.Contents.{result_of}
use Rattle.compiler.specs.ir_paths.Windows.{instr_at, instr_in, is_call_of}
use Rattle.compiler.specs.ir_paths.declared.point.Point.{Point}
use Rattle.compiler.specs.frame_classes.declared.class.SlotClass.{SlotClass}
use Rattle.compiler.specs.pass_cells.Cells.{fetched_function, fetches_of}
use Rattle.compiler.specs.pass_cells.Written.{entry_front as cells_front}
use Rattle.compiler.specs.pass_frames.Framed.{AreBefore, begin_block, begin_from, celled, has_begin, is_begin, starts_before}
use Rattle.compiler.specs.pass_frames.Tables.{class_flags}
use Rattle.pass_frames_meaning.proofs.begun.Begun.{first}
use Rattle.pass_frames_meaning.proofs.pass_frames_proof.code.Passes.{cells_made, fetches_made, rows}
use Rattle.pass_frames_meaning.specs.pass_frames_proof.Framings.{IsFraming}
use Rattle.pass_frames_meaning.specs.pass_frames_proof.Layers.{state_at}
use Rattle.pass_frames_meaning.specs.pass_frames_proof.Passes.{IsBlockMade, fetching_at, writing_at}
use Rattle.pass_frames_meaning.specs.pass_frames_proof.Places.{Framing, celled_layer, edged, fetched, named, plan}
use Rattle.pass_frames_meaning.specs.pass_frames_proof.Places.{with_copies, written}
use Rattle.pass_frames_meaning.specs.pass_frames_proof.Tests.{PassesLike}
use Rattle.compiler.proofs.pass_kept_proof.Read.{made_phi}
use Rattle.compiler.specs.pass_kept_proof.Needed.{phis_give}
use Rattle.compiler.proofs.pass_proofs.addresses.begin_order.Passing.{woven_passes}
use Rattle.compiler.specs.pass_proofs.cells.rules.Weaving.{cells_weaving}
use Rattle.compiler.specs.pass_proofs.flow_blocks.Reach.{Edge, IsReached, Start}
use Rattle.compiler.proofs.pass_proofs.frames.begin_order.Blocks.{IsBeginOf, begin_found, begin_listed}
use Rattle.compiler.proofs.pass_proofs.frames.begin_order.Framed.{celled_behind, celled_keeps, woven}
use Rattle.compiler.proofs.rule_laws.rules.shape.Begin.{begin_result}
use Rattle.compiler.proofs.rule_laws.rules.shape.Stands.{StandsAt, begin_stands}
use Rattle.compiler.proofs.rule_laws.rules.source_rules.Locals.{same_result}
use Rattle.compiler.proofs.rule_laws.rules.sources.Places.{point}
use Rattle.compiler.specs.rule_laws.rules.function_rules.Kept.{KeepsFunctionRules}
use Rattle.compiler.specs.rule_uses.Undefined.{Entry, Next, ReachesWithout}
use Rattle.compiler.specs.rule_uses.Uses.{made_by_instrs, phi_values, values_at, values_in}
use Rattle.run_accepted.proofs.Once.{no_phi_gives}
use Rattle.compiler.specs.run_step.Step.{phis_of}

-- ---- lists

listed_at : {A : Type 0} (xs : List A) (x : A) → IsListed x xs → (n : ℕ) × (slice_get xs n ≡ Some x)
listed_at [] x l = absurd l
listed_at (y ∷ xs) x (inl e) = (0, ap Some (sym e))
listed_at (y ∷ xs) x (inr l) = let z = listed_at xs x l in (suc z.0, z.1)

-- what makes a value of a block
made_from : (v : ℕ) (before : List ℕ) (is : List Instr) → IsListed v (made_by_instrs before is)
    → IsListed v before ⊎ ((i : Instr) × (IsListed i is × (result_of i ≡ Some v)))
made_from v before [] l = inl l
made_from v before (i ∷ is) l =
    ⊎_elim (λ h. on (result_of i) refl h) (λ z. inr (z.0, (inr z.1.0, z.1.1)))
    (made_from v (option_to_list (result_of i) ++ before) is l)
  where
    on : (o : Option ℕ) → result_of i ≡ o → IsListed v (option_to_list o ++ before)
        → IsListed v before ⊎ ((j : Instr) × (IsListed j (i ∷ is) × (result_of j ≡ Some v)))
    on None d h = inl h
    on (Some u) d (inl e) = inr (i, (inl refl, d ∙ ap Some (sym e)))
    on (Some u) d (inr h) = inl h

begins_in : (is : List Instr) (i : Instr) → IsListed i is → is_begin i ≡ true → has_begin is ≡ true
begins_in [] i l e = absurd l
begins_in (j ∷ is) i l e = on (is_begin j) refl l (begins_in is i)
  where
    on : (b : Bool) → is_begin j ≡ b → IsListed i (j ∷ is) → (IsListed i is → is_begin i ≡ true → has_begin is ≡ true)
        → (if b then true else has_begin is) ≡ true
    on true d k rest = refl
    on false d (inl same) rest = absurd (false≢true (sym d ∙ ap is_begin (sym same) ∙ e))
    on false d (inr k) rest = rest k e

-- begin is found at or before its block
found_low : (k : ℕ) (bs : List Block) (n : ℕ) (b : Block) → slice_get bs n ≡ Some b → has_begin b.instrs ≡ true
    → begin_from k bs ≤ k + n
found_low k [] n b e h = absurd (cc)
found_low k (c ∷ bs) zero b e h =
    let same : c ≡ b = cc in
    let here : begin_from k (c ∷ bs) ≡ k =
    ap (λ (t : Bool). if t then k else begin_from (k + 1) bs) (ap (λ (z : Block). has_begin z.instrs) same ∙ h) in
    omega (arith, here)
found_low k (c ∷ bs) (suc n) b e h = on (has_begin c.instrs) (found_low (k + 1) bs n b e h)
  where
    on : (t : Bool) → begin_from (k + 1) bs ≤ k + 1 + n → (if t then k else begin_from (k + 1) bs) ≤ k + suc n
    on true low = omega arith
    on false low = omega (arith, low)

begin_calls : (i : Instr) → is_call_of Intrinsic.CoroBegin i ≡ true → is_begin i ≡ true
begin_calls (Instr.Call r must_tail ty (Callee.Intrinsic Intrinsic.CoroBegin) args) e = refl
begin_calls _ e = absurd (cc)

-- ---- a coroutine

module _ (x : Framing) (is : IsFraming x) where
  abbrev F : Function
  F = edged x

  abbrev G : Function
  G = written x

  pub cells_are : (k : ℕ) → IsBlockMade (celled_layer x k) (edged x) (written x) k
  unfolding fetched_function
  cells_are k =
      rows (fetching_at (named x) (fetches_of (plan x)) k)
      (writing_at x.code (plan x) (cells_front (plan x) (edged x).params) (fetched x) k)
      (edged x) (fetched x) (written x) k
      (fetches_made (named x) (fetches_of (plan x)) (codes "$c.use.") k) (cells_made x.code (plan x) (fetched x) k)

  pub rules : KeepsFunctionRules x.code is.position (written x)
  unfolding celled
  rules = celled_keeps x.code is.position x.layout x.function x.contents is.begin (length (with_copies x).names)
      is.frameable

  begins_named : (at : ℕ) (b : Block) (i : Instr) → slice_get (written x).blocks at ≡ Some b → IsListed i b.instrs
      → is_begin i ≡ true → result_of i ≡ Some is.begin
  unfolding celled
  begins_named = (celled_behind x.code is.position x.layout x.function x.contents is.begin
      (length (with_copies x).names) is.frameable).named

  -- a path without begin's value leads there with blocks on edges alone, too
  pub path_before : (block : ℕ) → ReachesWithout (written x) is.begin block → ReachesWithout (edged x) is.begin block
  unfolding celled
  path_before = (woven_passes (cells_weaving x.code F x.contents.crossing
      (class_flags x.function x.contents.classes SlotClass.Local)) x.code is.position F G is.begin
      (woven x.code is.position x.layout x.function x.contents is.begin (length (with_copies x).names) is.frameable)
      is.frameable.rules is.frameable.once refl).path

  unfoldable S : StandsAt (edged x) Intrinsic.CoroBegin is.begin
  S = begin_stands (edged x) is.begin (first x is)

  -- begin stands in the same block with values in cells
  record IsBegunAt : Type 0 where
    block : Block
    got : slice_get (written x).blocks S.position ≡ Some block
    at : ℕ
    instr : Instr
    there : slice_get block.instrs at ≡ Some instr
    calls : is_begin instr ≡ true

  begun : IsBegunAt
  begun = on ((celled_layer x S.position).here
      (state_at (celled_layer x S.position) S.block.instrs S.at) S.instr) refl
      ((cell_keeps x S.position).here (state_at (celled_layer x S.position) S.block.instrs S.at) S.instr)
    where
      index : ℕ
      index = own_index (is_call_of Intrinsic.CoroBegin) (celled_layer x S.position) (cell_keeps x S.position)
          S.block.instrs S.at S.instr

      on : (o : Option Instr)
          → (celled_layer x S.position).here (state_at (celled_layer x S.position) S.block.instrs S.at) S.instr ≡ o
          → PassesLike (is_call_of Intrinsic.CoroBegin) S.instr o → IsBegunAt
      on None e h = absurd (false≢true (sym h ∙ S.calls))
      on (Some j) e h =
          let m = cells_are S.position S.block S.got in
          record {
            block = m.0;
            got = m.1;
            at = index;
            instr = j;
            there = ap (λ (xs : List Instr). slice_get xs index) m.2.instrs
                ∙ own_stands (is_call_of Intrinsic.CoroBegin) (celled_layer x S.position) (cell_keeps x S.position)
                S.block.instrs S.at S.instr j S.there e;
            calls = begin_calls j (h ∙ S.calls);
          }

  begun_there : instr_at (written x) (point S.position begun.at) ≡ Some begun.instr
  begun_there = ap (λ (o : Option Block). instr_in o begun.at) begun.got ∙ begun.there

  begun_gives : result_of begun.instr ≡ Some is.begin
  begun_gives = begins_named S.position begun.block begun.instr begun.got
      (get_listed begun.block.instrs begun.at begun.instr begun.there) begun.calls

  -- what gives its value stands in its block
  one_block : (n : ℕ) (b : Block) (i : Instr) → slice_get (written x).blocks n ≡ Some b → IsListed i b.instrs
      → result_of i ≡ Some is.begin → n ≡ S.position
  one_block n b i got li gives =
      let y = listed_at b.instrs i li in
      ap (λ (q : Point). q.block) (same_result is.position (written x) rules.definitions (point n y.0)
      (point S.position begun.at) i begun.instr is.begin (ap (λ (o : Option Block). instr_in o y.0) got ∙ y.1)
      begun_there gives begun_gives)

  no_phi : (n : ℕ) (b : Block) → slice_get (written x).blocks n ≡ Some b → IsListed is.begin (phi_values b) → ⊥
  no_phi n b e li = on (made_phi is.begin b.phis [] li)
    where
      on : IsListed is.begin [] ⊎ (phis_give is.begin b.phis ≡ true) → ⊥
      on (inl none) = none
      on (inr g) = false≢true (sym (no_phi_gives x.code is.position (written x) rules (point S.position begun.at)
          begun.instr is.begin begun_there begun_gives n)
          ∙ ap (λ (o : Option Block). phis_give is.begin (phis_of o)) e ∙ g)

  made_in : (n : ℕ) → IsListed is.begin (values_at (written x) n) → n ≡ S.position
  made_in n = on (slice_get (written x).blocks n) refl
    where
      on : (o : Option Block) → slice_get (written x).blocks n ≡ o → IsListed is.begin (values_in o) → n ≡ S.position
      on None e l = absurd l
      on (Some b) e l = ⊎_elim (λ h. absurd (no_phi n b e h)) (λ z. one_block n b z.0 e z.1.0 z.1.1)
          (made_from is.begin (phi_values b) b.instrs l)

  begin_is : begin_block (written x) ≡ S.position
  begin_is = ⊎_elim
      (λ (far : begin_from 0 (written x).blocks ≡ 0 + length (written x).blocks).
      let low : begin_from 0 (written x).blocks ≤ 0 + S.position = found_low 0 (written x).blocks S.position begun.block
      begun.got (begins_in begun.block.instrs begun.instr
      (get_listed begun.block.instrs begun.at begun.instr begun.there) begun.calls) in
      let inside : S.position < length (written x).blocks =
      get_within (written x).blocks S.position begun.block begun.got in
      absurd (omega (arith, far, low, inside)))
      (λ (z : IsBeginOf 0 (written x).blocks).
      let y = begin_listed z.block.instrs z.begins in
      let same : z.at ≡ S.position = one_block z.at z.block y.0 z.there y.1.0
      (begins_named z.at z.block y.0 z.there y.1.0 y.1.1) in
      let found : begin_from 0 (written x).blocks ≡ 0 + z.at = z.found in
      omega (arith, same, found))
      (begin_found 0 (written x).blocks)

  own_there : instr_at (edged x) (point S.position S.at) ≡ Some S.instr
  own_there = ap (λ (o : Option Block). instr_in o S.at) S.got ∙ S.there

  own_gives : result_of S.instr ≡ Some is.begin
  own_gives = begin_result S.instr S.calls ∙ S.makes

  -- with blocks on edges alone it stands in that block, too
  pub begins_at : (p : Point) (i : Instr) → instr_at (edged x) p ≡ Some i → result_of i ≡ Some is.begin
      → p.block ≡ begin_block (written x)
  begins_at p i there gives =
      let one : p ≡ point S.position S.at = same_result is.position (edged x) is.frameable.rules.definitions p
      (point S.position S.at) i S.instr is.begin there own_there gives own_gives in
      let blocks : p.block ≡ S.position = ap (λ (q : Point). q.block) one in
      blocks ∙ sym begin_is

  -- ---- blocks before begin's

  start_is : (n p : ℕ) → IsListed n (starts_before p) → (n ≡ 0) × (n ≡ p → ⊥)
  start_is n p = on (p == 0) refl
    where
      on : (t : Bool) → (p == 0) ≡ t → IsListed {X = ℕ} n (if t then [] else 0 ∷ []) → (n ≡ 0) × (n ≡ p → ⊥)
      on true d l = absurd l
      on false d (inl e) = (e, λ same. false≢true (sym d ∙ ap (λ (q : ℕ). q == 0) (sym same ∙ e)))
      on false d (inr l) = absurd l

  elsewhere : (n : ℕ) → IsReached (written x) (starts_before (begin_block (written x))) (begin_block (written x) ∷ []) n
      → n ≡ begin_block (written x) → ⊥
  elsewhere _ (Start n l) same = (start_is n (begin_block (written x)) l).1 same
  elsewhere _ (Edge from to r e apart) same = apart (inl same)

  without : (n : ℕ) → IsReached (written x) (starts_before (begin_block (written x))) (begin_block (written x) ∷ []) n
      → ReachesWithout (written x) is.begin n
  without _ (Start n l) =
      subst (ReachesWithout (written x) is.begin) (sym (start_is n (begin_block (written x)) l).0) Entry
  without _ (Edge from to r e apart) =
      Next from to (without from r) (λ l. elsewhere from r (made_in from l ∙ sym begin_is)) e

  -- a path leads without begin's value to each block before it
  pub reached_before : AreBefore (written x) x.before → (block : ℕ) → IsListed block x.before
      → ReachesWithout (edged x) is.begin block
  reached_before are block listed = path_before block (without block (are.is_reached block listed))
