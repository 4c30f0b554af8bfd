-- Where begin is ahead by the flags of blocks, and a path leads to the place, the place stands before begin.
use Rattle.std.proofs.Common.{◌≡◌, ◌⊎◌, ⊎_elim, inl, inr, ℕ, zero, suc, ◌+◌, ◌<◌, Bool, true, false, List, []}
use Rattle.std.proofs.Common.{◌∷◌, ◌++◌, length, map, Option, Some, None, refl, sym, ap, ◌∙◌, subst, arith}
use Rattle.std.proofs.lemmas.Bool.{false≢true}
use Rattle.std.specs.Prelude.{if◌then◌else◌, option_to_list, slice_get, take, ◌==◌}
use Rattle.compiler_theorem.proofs.accesses.Begins.{begins_at, cells_are, reached_before, rules}
use Rattle.compiler_theorem.proofs.apart.EarlyFramed.{makes}
use Rattle.compiler_theorem.proofs.known.Behind.{cell_keeps}
use Rattle.compiler_theorem.proofs.known.Plain.{there_at}
use Rattle.compiler.specs.flow_solver.Paths.{IsListed}
use Rattle.compiler.proofs.ir_laws.facts.Lists.{get_within}
use Rattle.compiler.proofs.ir_laws.facts.Truth.{itself}
use Rattle.compiler.proofs.ir_laws.paths.begin_order.Framed.{get_listed}
use Rattle.compiler.proofs.ir_laws.paths.renamed.Uses.{StandsIn, stands_in}
use Rattle.compiler.specs.ir_model.Names.{position_of}
use Rattle.compiler.specs.ir_model.declared.instr.Instr.{Instr}
use Rattle.compiler.specs.ir_model.declared.module.Block.{Block}
use Rattle.compiler.specs.ir_model.declared.module.Function.{Function}
use Rattle.compiler.specs.ir_model.declared.operand.Callee.{Callee}
use Rattle.compiler.specs.ir_model.declared.operand.Intrinsic.{Intrinsic}
use Rattle.compiler.specs.ir_parts.Contents.{result_of}
use Rattle.compiler.proofs.ir_paths.Search.{or_left, or_right}
use Rattle.compiler.specs.ir_paths.Paths.{targets}
use Rattle.compiler.specs.ir_paths.Slots.{has_name}
use Rattle.compiler.specs.ir_paths.Windows.{instr_in, is_call_of}
use Rattle.compiler.specs.pass_copies.Uses.{flag_at}
use Rattle.compiler.specs.pass_copies.Uses.{is_begin as begins_here}
use Rattle.compiler.specs.pass_frames.Framed.{AreBefore, begin_block, is_begin}
use Rattle.pass_frames_meaning.proofs.begun.Begun.{first}
use Rattle.pass_frames_meaning.specs.Led.{IsBegin}
use Rattle.pass_frames_meaning.specs.Unbegun.{IsBefore, after, along, first as first_point}
use Rattle.pass_frames_meaning.proofs.pass_frames_proof.code.Passes.{block_is}
use Rattle.pass_frames_meaning.proofs.pass_frames_proof.layers.Grown.{both_passed}
use Rattle.pass_frames_meaning.proofs.pass_frames_proof.layers.Standing.{end_stands}
use Rattle.pass_frames_meaning.specs.pass_frames_proof.Code.{is_ahead}
use Rattle.pass_frames_meaning.specs.pass_frames_proof.Framings.{IsFraming}
use Rattle.pass_frames_meaning.specs.pass_frames_proof.Layers.{Layer, becomes, grown, passed}
use Rattle.pass_frames_meaning.specs.pass_frames_proof.Passes.{block_at, unmarked_at}
use Rattle.pass_frames_meaning.specs.pass_frames_proof.Places.{Copied, Framing, Placed, Unmarked, addressing_layer}
use Rattle.pass_frames_meaning.specs.pass_frames_proof.Places.{before_labels, celled_layer, copied_layer, copying_layer}
use Rattle.pass_frames_meaning.specs.pass_frames_proof.Places.{edged, instrs_at, marked, unmarked_layer, written}
use Rattle.pass_frames_meaning.specs.pass_frames_proof.Stepping.{state_in}
use Rattle.pass_frames_meaning.specs.pass_frames_proof.Tests.{AllFail, KeepsTest, PassesLike}
use Rattle.compiler.specs.pass_kept_proof.Needed.{BranchesTo, IsReached, after as reached_after, along as reached_along, first as reached_first}
use Rattle.compiler.proofs.pass_proofs.early.save_simulation.Suspending.{fetch_at}
use Rattle.compiler.specs.pass_proofs.flow_blocks.Edges.{block_edges, edges_of_blocks, edges_out}
use Rattle.compiler.proofs.pass_proofs.frames.begin_order.Alone.{begins_named}
use Rattle.compiler.proofs.pass_proofs.frames.begin_order.Blocks.{flagged_back}
use Rattle.compiler.proofs.rule_laws.flow_blocks.Elements.{listed_append, listed_map}
use Rattle.compiler.proofs.rule_laws.rules.renamed.Outside.{each_left, each_right}
use Rattle.compiler.proofs.rule_laws.rules.sources.Places.{instr_there, point}
use Rattle.compiler.specs.rule_uses.Undefined.{Entry, Next, ReachesWithout}
use Rattle.compiler.specs.rule_uses.Uses.{phi_values, values_in}
use Rattle.compiler.specs.run_step.Step.{AtInstr, fetch}

abbrev begins : Instr → Bool
begins = is_call_of Intrinsic.CoroBegin

begin_calls : (i : Instr) → begins i ≡ true → is_begin i ≡ true
begin_calls (Instr.Call r must_tail ty (Callee.Intrinsic Intrinsic.CoroBegin) args) e = refl
begin_calls _ e = absurd (cc)

one_begins : (i : Instr) → begins i ≡ true → IsBegin i
one_begins (Instr.Call result must_tail ty (Callee.Intrinsic Intrinsic.CoroBegin) args) e = tt
one_begins _ e = absurd (cc)

begin_called : (i : Instr) → IsBegin i → begins i ≡ true
begin_called (Instr.Call result must_tail ty (Callee.Intrinsic Intrinsic.CoroBegin) args) h = refl
begin_called _ h = absurd h

no_begin : (i : Instr) → begins i ≡ false → IsBegin i → ⊥
no_begin i e h = false≢true (sym e ∙ begin_called i h)

-- ---- where begin is still ahead, none stands in front

still_ahead : (i : Instr) (b : Bool) → (if begins_here i then false else b) ≡ true → (b ≡ true) × (begins i ≡ false)
still_ahead (Instr.Call r must_tail ty (Callee.Intrinsic Intrinsic.CoroBegin) args) b e = absurd (cc)
still_ahead _ b e = (e, refl)

taken : (is : List Instr) (at n : ℕ) (i : Instr) → AllFail begins (take at is) → n < at → slice_get is n ≡ Some i
    → begins i ≡ false
taken [] at n i h lt e = absurd (cc)
taken (j ∷ is) zero n i h lt e = absurd (omega (arith, lt))
taken (j ∷ is) (suc at) zero i h lt e = let same : j ≡ i = cc in subst (λ (y : Instr). begins y ≡ false) same h.0
taken (j ∷ is) (suc at) (suc n) i h lt e = taken is at n i h.1 (omega (arith, lt)) e

module _ {T : Type 0} (L : Layer T) (keeps : KeepsTest begins L) where
  grown_back : (s : T) (is : List Instr) → AllFail begins (grown L s is) → AllFail begins is
  grown_back s [] h = tt
  grown_back s (i ∷ is) h = (
    one (L.here s i) refl (keeps.here s i),
    grown_back (L.after s i) is (each_right (λ (y : Instr). begins y ≡ false) (becomes L s i) (grown L (L.after s i) is)
        h),
  )
    where
      here : AllFail begins (option_to_list (L.here s i) ++ L.behind s i)
      here = each_right (λ (y : Instr). begins y ≡ false) (L.before s i) (option_to_list (L.here s i) ++ L.behind s i)
          (each_left (λ (y : Instr). begins y ≡ false) (becomes L s i) (grown L (L.after s i) is) h)

      one : (o : Option Instr) → L.here s i ≡ o → PassesLike begins i o → begins i ≡ false
      one None e p = p
      one (Some j) e p =
          let there = subst (λ (q : Option Instr). AllFail begins (option_to_list q ++ L.behind s i)) e here in
          sym p ∙ there.0

module _ (x : Framing) (k : ℕ) where
  ahead_back : (s : Bool × ℕ) (js : List Instr) → (passed (copying_layer x k) s js).0 ≡ true
      → (s.0 ≡ true) × AllFail begins js
  ahead_back s [] e = (e, tt)
  ahead_back s (j ∷ js) e =
      let z = ahead_back ((copying_layer x k).after s j) js e in
      let y = still_ahead j s.0 z.0 in
      (y.0, (y.1, z.1))

  module _ (at : ℕ) where
    abbrev is : List Instr
    is = take at (instrs_at x k)

    ahead_is : is_ahead (state_in x k at)
        ≡ (passed (copying_layer x k)
        (passed (copying_layer x k) (copying_layer x k).start (celled_layer x k).front)
        (grown (celled_layer x k) (celled_layer x k).start (take at (instrs_at x k)))).0
    ahead_is =
        ap (λ (p : Placed). p.0.0.1.0) (both_passed (unmarked_layer x k) (addressing_layer x k) (unmarked_layer x k).start
        (passed (addressing_layer x k) (addressing_layer x k).start (unmarked_layer x k).front) is)
        ∙ ap (λ (u : Unmarked). u.0.1.0) (both_passed (copied_layer x k) (unmarked_at (marked x)) (copied_layer x k).start
        (passed (unmarked_at (marked x)) (unmarked_at (marked x)).start (copied_layer x k).front) is)
        ∙ ap (λ (c : Copied). c.1.0) (both_passed (celled_layer x k) (copying_layer x k) (celled_layer x k).start
        (passed (copying_layer x k) (copying_layer x k).start (celled_layer x k).front) is)

    pub record IsFlagged : Type 0 where
      pub flagged : flag_at (before_labels x) (block_at (written x) k).label ≡ true
      pub none : AllFail begins (take at (instrs_at x k))

    pub flagged_there : is_ahead (state_in x k at) ≡ true → IsFlagged
    flagged_there ahead =
        let z = ahead_back (passed (copying_layer x k) (copying_layer x k).start (celled_layer x k).front)
        (grown (celled_layer x k) (celled_layer x k).start is) (sym ahead_is ∙ ahead) in
        let y = ahead_back (copying_layer x k).start (celled_layer x k).front z.0 in
        record {
          flagged = y.0;
          none = grown_back (celled_layer x k) (cell_keeps x k) (celled_layer x k).start is z.1;
        }

-- ---- edges between blocks

record IsOut (f : Function) (at : ℕ) (blocks : List Block) (from to : ℕ) : Type 0 where
  place : ℕ
  block : Block
  is_block : slice_get blocks place ≡ Some block
  is_from : from ≡ at + place
  label : ℕ
  is_target : IsListed label (targets block.term)
  leads : to ≡ position_of f label

edges_in : (f : Function) (at : ℕ) (blocks : List Block) (from to : ℕ)
    → IsListed (from, to) (edges_of_blocks f at blocks) → IsOut f at blocks from to
edges_in f at [] from to h = absurd h
edges_in f at (b ∷ bs) from to h =
    ⊎_elim here (λ k. later (edges_in f (at + 1) bs from to k))
    (listed_append (from, to) (edges_out f at b) (edges_of_blocks f (at + 1) bs) h)
  where
    here : IsListed (from, to) (edges_out f at b) → IsOut f at (b ∷ bs) from to
    here k =
        let one = listed_map (λ (t : ℕ). (at, t)) (from, to) (map (position_of f) (targets b.term)) k in
        let two = listed_map (position_of f) one.0 (targets b.term) one.1.0 in
        let start : from ≡ at = ap (λ (p : ℕ × ℕ). p.0) one.1.1 in
        record {
          place = 0;
          block = b;
          is_block = refl;
          is_from = omega (arith, start);
          label = two.0;
          is_target = two.1.0;
          leads = ap (λ (p : ℕ × ℕ). p.1) one.1.1 ∙ two.1.1;
        }

    later : IsOut f (at + 1) bs from to → IsOut f at (b ∷ bs) from to
    later o =
        let start = o.is_from in
        record {
          place = suc o.place;
          block = o.block;
          is_block = o.is_block;
          is_from = omega (arith, start);
          label = o.label;
          is_target = o.is_target;
          leads = o.leads;
        }

edge_out : (f : Function) (from to : ℕ) → IsListed (from, to) (block_edges f) → IsOut f 0 f.blocks from to
unfolding block_edges
edge_out f from to h = edges_in f 0 f.blocks from to h

named_in : (xs : List ℕ) (v : ℕ) → IsListed v xs → has_name xs v ≡ true
named_in [] v l = absurd l
named_in (x ∷ xs) v (inl e) = or_left (x == v) _ (subst (λ (n : ℕ). (x == n) ≡ true) (sym e) (itself x))
named_in (x ∷ xs) v (inr l) = or_right (x == v) _ (named_in xs v l)

-- ---- paths

module _ (f : Function) where
  front_of : {block at : ℕ} → IsBefore f block at → IsBefore f block 0
  front_of first_point = first_point
  front_of (after i there nb w) = front_of w
  front_of (along label br w) = along label br w

  front_there : (p k q : ℕ) → p ≡ q → k ≡ q → IsBefore f p 0 → IsBefore f k 0
  front_there p k q same e w = subst (λ (n : ℕ). IsBefore f n 0) (same ∙ sym e) w

  -- over instructions of a block that are no begin
  forward : (k : ℕ) (b : Block) → slice_get f.blocks k ≡ Some b → IsBefore f k 0 → (n : ℕ)
      → ((y : Instr) (j : ℕ) → j < n → slice_get b.instrs j ≡ Some y → begins y ≡ false)
      → ((j : ℕ) → j < n → j < length b.instrs) → IsBefore f k n
  forward k b got w zero h low = w
  forward k b got w (suc n) h low =
      let y = there_at b.instrs n (low n (omega arith)) in
      let next : n + 1 ≡ suc n = omega arith in
      subst (IsBefore f k) next
      (after y.0 (fetch_at f (point k n) y.0 (ap (λ (o : Option Block). instr_in o n) got ∙ y.1))
      (no_begin y.0 (h y.0 n (omega arith) y.1))
      (forward k b got w n (λ z j lt e. h z j (omega (arith, lt)) e) (λ j lt. low j (omega (arith, lt)))))

  -- begin, before which the place stands that is reached behind it
  record IsBegunBefore : Type 0 where
    block : ℕ
    at : ℕ
    instr : Instr
    there : fetch f block at ≡ AtInstr instr
    calls : begins instr ≡ true
    before : IsBefore f block at

  split_reached : {block at : ℕ} → IsReached f block at → IsBefore f block at ⊎ IsBegunBefore
  split_reached reached_first = inl first_point
  split_reached (reached_after {block} {at} i there r) = ⊎_elim (λ w. on w (begins i) refl) (λ z. inr z)
      (split_reached r)
    where
      on : IsBefore f block at → (b : Bool) → begins i ≡ b → IsBefore f block (at + 1) ⊎ IsBegunBefore
      on w true e = inr (record { block = block; at = at; instr = i; there = there; calls = e; before = w })
      on w false e = inl (after i there (no_begin i e) w)
  split_reached (reached_along label br r) = ⊎_elim (λ w. inl (along label br w)) (λ z. inr z) (split_reached r)

module _ (x : Framing) (is : IsFraming x) where
  abbrev F : Function
  F = edged x

  named : (at : ℕ) (b : Block) (i : Instr) → slice_get (edged x).blocks at ≡ Some b → IsListed i b.instrs
      → is_begin i ≡ true → result_of i ≡ Some is.begin
  named = begins_named x.code is.position (edged x) is.begin is.frameable.rules is.frameable.coroutine
      is.frameable.calls (first x is)

  path_front : (block : ℕ) → ReachesWithout (edged x) is.begin block → IsBefore (edged x) block 0
  path_front _ Entry = first_point
  path_front _ (Next from to path unmade e) =
      let o = edge_out F from to e in
      let place : from ≡ o.place = let same = o.is_from in omega (arith, same) in
      let got : slice_get F.blocks from ≡ Some o.block = ap (slice_get F.blocks) place ∙ o.is_block in
      let whole = forward F from o.block got (path_front from path) (length o.block.instrs)
      (λ y j lt d. refuted y j got d (begins y) refl) (λ j lt. lt) in
      subst (λ (n : ℕ). IsBefore F n 0) (sym o.leads)
      (along o.label (subst (BranchesTo o.label) (sym (end_stands F from o.block got o.block.instrs refl))
      (named_in (targets o.block.term) o.label o.is_target)) whole)
    where
      refuted : {b : Block} (y : Instr) (j : ℕ) → slice_get (edged x).blocks from ≡ Some b
          → slice_get b.instrs j ≡ Some y → (t : Bool) → begins y ≡ t → t ≡ false
      refuted y j got d false c = refl
      refuted {b} y j got d true c = absurd (unmade (subst (λ (o : Option Block). IsListed is.begin (values_in o))
          (sym got) (makes is.begin (phi_values b) b.instrs j y d
          (named from b y got (get_listed b.instrs j y d) (begin_calls y c)))))

  module _ (are : AreBefore (written x) x.before) (block at : ℕ) (i : Instr)
      (there : fetch (edged x) block at ≡ AtInstr i) (ahead : is_ahead (state_in x block at) ≡ true) where
    flags : IsFlagged x block at
    flags = flagged_there x block at ahead

    pub ahead_before : IsReached (edged x) block at → IsBefore (edged x) block at
    ahead_before reached = ⊎_elim (λ w. w) (λ z. begun z) (split_reached F reached)
      where
        own : StandsIn (edged x) (point block at) i
        own = stands_in F (point block at) i (instr_there F block at i there)

        over : IsBefore (edged x) block 0 → IsBefore (edged x) block at
        over w = forward F block own.block own.got w at
            (λ y j lt e. taken (instrs_at x block) at j y flags.none lt
            (ap (λ (b : Block). slice_get b.instrs j) (block_is F block own.block own.got) ∙ e))
            (λ j lt. let low = get_within own.block.instrs at i own.stands in omega (arith, lt, low))

        listed : IsListed block (begin_block (written x) ∷ x.before)
        listed =
            let m = cells_are x is block own.block own.got in
            flagged_back x.code is.position (written x) (rules x is) (begin_block (written x) ∷ x.before) block m.0 m.1
            (ap (λ (b : Block). flag_at (before_labels x) b.label) (sym (block_is (written x) block m.0 m.1))
            ∙ flags.flagged)

        begun : IsBegunBefore (edged x) → IsBefore (edged x) block at
        begun z = on listed
          where
            same : z.block ≡ begin_block (written x)
            same =
                let y = stands_in F (point z.block z.at) z.instr (instr_there F z.block z.at z.instr z.there) in
                begins_at x is (point z.block z.at) z.instr (instr_there F z.block z.at z.instr z.there)
                (named z.block y.block z.instr y.got (get_listed y.block.instrs z.at z.instr y.stands)
                (begin_calls z.instr z.calls))

            on : IsListed block (begin_block (written x) ∷ x.before) → IsBefore (edged x) block at
            on (inl e) = over (front_there F z.block block (begin_block (written x)) same e (front_of F z.before))
            on (inr l) = over (path_front block (reached_before x is are block l))
