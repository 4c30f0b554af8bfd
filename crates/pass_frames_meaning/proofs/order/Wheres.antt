-- New names of an access before begin come in the order of the passes: loads, loads of addresses, and addresses.
use Rattle.std.proofs.Common.{◌≡◌, ℕ, zero, suc, ◌+◌, ◌*◌, ◌<◌, ◌≤◌, Bool, true, false, List, [], ◌∷◌, ◌++◌, length}
use Rattle.std.proofs.Common.{Option, Some, refl, sym, ap, ◌∙◌, subst, arith, append_assoc, length-append}
use Rattle.std.specs.Prelude.{◌-◌, codes, drop, if◌then◌else◌, slice_get, take, unwrap_or}
use Rattle.pass_frames_proof.specs.ir_model.declared.instr.Instr.{Instr}
use Rattle.pass_frames_proof.specs.ir_model.declared.module.Block.{Block}
use Rattle.pass_frames_proof.specs.ir_parts.Contents.{instr_operands}
use Rattle.pass_frames_proof.specs.pass_cells.Cells.{fetches_of}
use Rattle.pass_frames_proof.specs.pass_copies.BeginCopies.{after_block, after_blocks, after_instr, after_instrs}
use Rattle.pass_frames_proof.specs.pass_copies.BeginCopies.{first_fetched, is_fetched}
use Rattle.pass_frames_proof.specs.pass_copies.Slots.{slot_names}
use Rattle.pass_frames_proof.specs.pass_copies.Uses.{flag_at, is_access, still_before}
use Rattle.pass_frames_proof.specs.pass_copies.declared.copying.Copying.{Copying}
use Rattle.pass_frames_proof.specs.pass_fetch.Blocks.{numbered_names}
use Rattle.pass_frames_proof.specs.pass_fetch.Fetching.{next_after_all}
use Rattle.pass_frames_proof.specs.pass_fetch.Instrs.{next_after_instr}
use Rattle.pass_frames_meaning.proofs.order.Order.{addresses_up, block_there, cells_are, doubled, early_numbers, loads}
use Rattle.pass_frames_meaning.proofs.order.Order.{low, one_room, states}
use Rattle.pass_frames_meaning.proofs.order.Parts.{written_is}
use Rattle.pass_frames_proof.proofs.code.Left.{parts_left}
use Rattle.pass_frames_proof.proofs.early.Unlocated.{access_same}
use Rattle.pass_frames_proof.proofs.here.Line.{left, lined_fetched}
use Rattle.pass_frames_proof.proofs.layers.Grown.{both_becomes, both_passed, grown_append, passed_append}
use Rattle.pass_frames_proof.proofs.layers.Idle.{state_stays}
use Rattle.pass_frames_proof.proofs.layers.Standing.{split_at}
use Rattle.pass_frames_proof.proofs.located.Access.{access_lined}
use Rattle.pass_frames_proof.proofs.located.Line.{located_is}
use Rattle.pass_frames_proof.proofs.pass_proofs.cells.rules.Totals.{numbered_length}
use Rattle.pass_frames_proof.proofs.pass_proofs.fetch.rules.Puts.{fetch_rises}
use Rattle.pass_frames_proof.proofs.stepping.Names.{slots_new}
use Rattle.pass_frames_proof.specs.Code.{is_ahead, load_name, loaded, loads as loads_of, saved, stores}
use Rattle.pass_frames_proof.specs.Code.{where_name}
use Rattle.pass_frames_proof.specs.Framings.{IsFraming}
use Rattle.pass_frames_proof.specs.Here.{IsLined}
use Rattle.pass_frames_proof.specs.Layers.{Layer, becomes, grown, passed, woven}
use Rattle.pass_frames_proof.specs.Located.{AreWheresInOrder, addressed_instr, where_table}
use Rattle.pass_frames_proof.specs.Passes.{no_block, unmarked_at}
use Rattle.pass_frames_proof.specs.Places.{Framing, Placed, before_labels, celled_layer, copied_layer, copies}
use Rattle.pass_frames_proof.specs.Places.{copying_layer, instrs_at, loading_layer, marked, plan, with_copies}
use Rattle.pass_frames_proof.specs.Places.{writing_layer, written}
use Rattle.pass_frames_proof.specs.Stepping.{state_in}

-- ---- how many names the pass takes

module _ (c : Copying) where
  instr_up : (b : Bool) (n : ℕ) (i : Instr) → n ≤ after_instr c b n i
  instr_up b n i = on (is_fetched b i)
    where
      on : (q : Bool) → n ≤ (if q then next_after_instr c.fetches n i else n)
      on true = fetch_rises c.fetches n (instr_operands i)
      on false = omega arith

  instrs_up : (b : Bool) (n : ℕ) (is : List Instr) → n ≤ after_instrs c b n is
  instrs_up b n [] = omega arith
  instrs_up b n (i ∷ is) =
      let here : n ≤ after_instr c b n i = instr_up b n i in
      let more : after_instr c b n i ≤ after_instrs c (still_before b i) (after_instr c b n i) is =
      instrs_up (still_before b i) (after_instr c b n i) is in
      omega (arith, here, more)

  blocks_up : (flags : List Bool) (n : ℕ) (bs : List Block) → n ≤ after_blocks c flags n bs
  blocks_up flags n [] = omega arith
  blocks_up flags n (b ∷ bs) =
      let here : n ≤ after_block c flags n b = instrs_up (flag_at flags b.label) n b.instrs in
      let more : after_block c flags n b ≤ after_blocks c flags (after_block c flags n b) bs =
      blocks_up flags (after_block c flags n b) bs in
      omega (arith, here, more)

  blocks_to : (flags : List Bool) (n : ℕ) (bs : List Block) (k : ℕ) (b : Block) → slice_get bs k ≡ Some b
      → after_block c flags (after_blocks c flags n (take k bs)) b ≤ after_blocks c flags n bs
  blocks_to flags n [] k b e = absurd (cc)
  blocks_to flags n (d ∷ bs) zero b e =
      let same : d ≡ b = cc in
      subst (λ (z : Block). after_block c flags n z ≤ after_blocks c flags n (d ∷ bs)) same
      (blocks_up flags (after_block c flags n d) bs)
  blocks_to flags n (d ∷ bs) (suc k) b e = blocks_to flags (after_block c flags n d) bs k b e

  fetched_after : (b : Bool) (n : ℕ) (i : Instr) → b ≡ true → is_access i ≡ true
      → after_instr c b n i ≡ next_after_instr c.fetches n i
  fetched_after true n i e access =
      ap (λ (q : Bool). if q then next_after_instr c.fetches n i else n) access
  fetched_after false n i e access = absurd (cc)

module _ (x : Framing) (is : IsFraming x) (k : ℕ) where
  abbrev L : Layer (Bool × ℕ)
  L = copying_layer x k

  abbrev first : ℕ
  first = first_fetched (written x) (copies x)

  passed_name : (s : Bool × ℕ) (js : List Instr) → (passed L s js).1 ≡ after_instrs (copies x) s.0 s.1 js
  passed_name s [] = refl
  passed_name s (j ∷ js) = passed_name (L.after s j) js

  name_up : (s : Bool × ℕ) (js : List Instr) → s.1 ≤ (passed L s js).1
  name_up s js =
      let a : s.1 ≤ after_instrs (copies x) s.0 s.1 js = instrs_up (copies x) s.0 s.1 js in
      let b = passed_name s js in
      omega (arith, a, b)

  start_up : first ≤ L.start.1
  start_up = blocks_up (copies x) (before_labels x) first (take k (written x).blocks)

  count_is : length (with_copies x).names ≡ after_blocks (copies x) (before_labels x) first (written x).blocks
  count_is =
      let count : ℕ = length (copies x).slots in
      let last : ℕ = after_blocks (copies x) (before_labels x) first (written x).blocks in
      let a : length (slot_names count) ≡ 2 * count = doubled count in
      let b : length ((written x).names ++ slot_names count)
      ≡ length (written x).names + length (slot_names count) = length-append (written x).names (slot_names count) in
      let d : length (((written x).names ++ slot_names count) ++ numbered_names (codes "$c.there.") (last - first))
      ≡ length ((written x).names ++ slot_names count) + length (numbered_names (codes "$c.there.") (last - first)) =
      length-append ((written x).names ++ slot_names count) (numbered_names (codes "$c.there.") (last - first)) in
      let e : length (numbered_names (codes "$c.there.") (last - first)) ≡ last - first =
      numbered_length (codes "$c.there.") (last - first) in
      let up : first ≤ last = blocks_up (copies x) (before_labels x) first (written x).blocks in
      omega (arith, a, b, d, e, up)

  -- ---- the state of the pass

  abbrev C : Layer (ℕ × ℕ)
  C = celled_layer x k

  abbrev before : ℕ → List Instr
  before at = C.front ++ grown C C.start (take at (instrs_at x k))

  state_is : (at : ℕ) → (state_in x k at).0.0.1 ≡ passed L L.start (before at)
  state_is at =
      ap (λ (s : Placed). s.0.0.1) (states x is k at)
      ∙ ap (λ (s : ((ℕ × ℕ) × (Bool × ℕ)) × (Unit {0} × Unit {0})). s.0.1)
      (both_passed (copied_layer x k) (unmarked_at (marked x)) (copied_layer x k).start
      (passed (unmarked_at (marked x)) (tt, tt) (copied_layer x k).front) (take at (instrs_at x k)))
      ∙ ap (λ (s : (ℕ × ℕ) × (Bool × ℕ)). s.1)
      (both_passed C L C.start (passed L L.start C.front) (take at (instrs_at x k)))
      ∙ sym (passed_append L L.start C.front (grown C C.start (take at (instrs_at x k))))

  cells_state : (at : ℕ) → (state_in x k at).0.0.0 ≡ passed C C.start (take at (instrs_at x k))
  cells_state at =
      ap (λ (s : Placed). s.0.0.0) (states x is k at)
      ∙ ap (λ (s : ((ℕ × ℕ) × (Bool × ℕ)) × (Unit {0} × Unit {0})). s.0.0)
      (both_passed (copied_layer x k) (unmarked_at (marked x)) (copied_layer x k).start
      (passed (unmarked_at (marked x)) (tt, tt) (copied_layer x k).front) (take at (instrs_at x k)))
      ∙ ap (λ (s : (ℕ × ℕ) × (Bool × ℕ)). s.0)
      (both_passed C L C.start (passed L L.start C.front) (take at (instrs_at x k)))

  where_up : (at : ℕ) → first ≤ where_name (state_in x k at)
  where_up at =
      let a = start_up in
      let b : L.start.1 ≤ (passed L L.start (before at)).1 = name_up L.start (before at) in
      let c : where_name (state_in x k at) ≡ (passed L L.start (before at)).1 =
      ap (λ (s : Bool × ℕ). s.1) (state_is at) in
      omega (arith, a, b, c)

  -- ---- an access

  module _ (at : ℕ) (i : Instr) (there : slice_get (instrs_at x k) at ≡ Some i) (access : is_access i ≡ true)
      (ahead : is_ahead (state_in x k at) ≡ true) where
    abbrev n : Placed
    n = state_in x k at

    abbrev j : Instr
    j = loaded x n i

    abbrev m : Instr
    m = addressed_instr x n i

    j_lined : IsLined j
    j_lined = lined_fetched (fetches_of (plan x)) (load_name n) i (access_lined i access)

    m_lined : IsLined m
    m_lined = lined_fetched (where_table x) (where_name n) j j_lined

    j_access : is_access j ≡ true
    j_access = access_same (fetches_of (plan x)) (load_name n) i ∙ access

    abbrev front : List Instr
    front = loads_of x n i ++ saved x n i

    becomes_is : becomes C n.0.0.0 i ≡ front ++ j ∷ stores x n i
    becomes_is =
        both_becomes (loading_layer x k) (writing_layer x k) n.0.0.0.0 n.0.0.0.1 i
        ∙ written_is x k n i (parts_left x is k at i there)
        ∙ sym (append_assoc (loads_of x n i) (saved x n i) (j ∷ stores x n i))

    abbrev later : List Instr
    later =
        grown C (C.after (passed C C.start (take at (instrs_at x k))) i) (drop (suc at) (instrs_at x k))
        ++ C.back (passed C C.start (instrs_at x k))

    block_is : woven C (instrs_at x k) ≡ before at ++ (front ++ (j ∷ (stores x n i ++ later)))
    block_is =
        ap (λ (js : List Instr). C.front ++ (js ++ C.back (passed C C.start (instrs_at x k))))
        (ap (λ (js : List Instr). grown C C.start js) (split_at (instrs_at x k) at i there)
        ∙ grown_append C C.start (take at (instrs_at x k)) (i ∷ drop (suc at) (instrs_at x k)))
        ∙ shapes C.front (grown C C.start (take at (instrs_at x k)))
        (becomes C (passed C C.start (take at (instrs_at x k))) i)
        (grown C (C.after (passed C C.start (take at (instrs_at x k))) i) (drop (suc at) (instrs_at x k)))
        (C.back (passed C C.start (instrs_at x k)))
        ∙ ap (λ (js : List Instr). before at ++ (js ++ later))
        (ap (λ (s : ℕ × ℕ). becomes C s i) (sym (cells_state at)) ∙ becomes_is)
        ∙ ap (λ (js : List Instr). before at ++ js) (append_assoc front (j ∷ stores x n i) later)
      where
        shapes : (a g b c d : List Instr) → a ++ ((g ++ (b ++ c)) ++ d) ≡ (a ++ g) ++ (b ++ (c ++ d))
        shapes a g b c d = simp append_assoc

    -- the names up to the access are among those of the pass
    passes_it : next_after_all (where_table x) (where_name n) (instr_operands j)
        ≤ (passed L L.start (before at ++ (front ++ (j ∷ (stores x n i ++ later))))).1
    passes_it =
        let e : passed L L.start (before at ++ (front ++ (j ∷ (stores x n i ++ later))))
        ≡ passed L (L.after n.0.0.1 j) (stores x n i ++ later) =
        passed_append L L.start (before at) (front ++ (j ∷ (stores x n i ++ later)))
        ∙ ap (λ (s : Bool × ℕ). passed L s (front ++ (j ∷ (stores x n i ++ later)))) (sym (state_is at))
        ∙ passed_append L n.0.0.1 front (j ∷ (stores x n i ++ later))
        ∙ ap (λ (s : Bool × ℕ). passed L s (j ∷ (stores x n i ++ later)))
        (state_stays L front (parts_left x is k at i there).copied n.0.0.1) in
        let f : (passed L L.start (before at ++ (front ++ (j ∷ (stores x n i ++ later))))).1
        ≡ (passed L (L.after n.0.0.1 j) (stores x n i ++ later)).1 = ap (λ (s : Bool × ℕ). s.1) e in
        let a : after_instr (copies x) (is_ahead n) (where_name n) j
        ≤ (passed L (L.after n.0.0.1 j) (stores x n i ++ later)).1 =
        name_up (L.after n.0.0.1 j) (stores x n i ++ later) in
        let b : after_instr (copies x) (is_ahead n) (where_name n) j
        ≡ next_after_all (where_table x) (where_name n) (instr_operands j) =
        fetched_after (copies x) (is_ahead n) (where_name n) j ahead j_access in
        omega (arith, f, a, b)

    named_up : next_after_all (where_table x) (where_name n) (instr_operands j) ≤ length (with_copies x).names
    named_up =
        let b = block_there x is k at i there in
        let c = cells_are x is k b.0 b.1 in
        let start_flag : L.start ≡ (flag_at (before_labels x) c.0.label, L.start.1) =
        ap (λ (o : Option Block). (flag_at (before_labels x) (unwrap_or o no_block).label, L.start.1)) c.1 in
        let shape : c.0.instrs ≡ before at ++ (front ++ (j ∷ (stores x n i ++ later))) =
        c.2.instrs ∙ ap (λ (ys : List Instr). woven C ys) b.2 ∙ block_is in
        let to : after_block (copies x) (before_labels x) L.start.1 c.0
        ≤ after_blocks (copies x) (before_labels x) first (written x).blocks =
        blocks_to (copies x) (before_labels x) first (written x).blocks k c.0 c.1 in
        let same : after_block (copies x) (before_labels x) L.start.1 c.0
        ≡ (passed L L.start (before at ++ (front ++ (j ∷ (stores x n i ++ later))))).1 =
        sym (passed_name (flag_at (before_labels x) c.0.label, L.start.1) c.0.instrs)
        ∙ (λ z. (passed L (sym start_flag z) (shape z)).1) in
        let one = passes_it in
        let all = count_is in
        omega (arith, to, same, one, all)

    pub wheres_in_order : AreWheresInOrder x n i
    wheres_in_order = record {
      low = low x is k at;
      loads = loads x is k at i there;
      slots = λ s c.
          let e = early_numbers x is k s c in
          let t : s.temporary < length (written x).names + 2 * length (copies x).slots = e.0 in
          let u : s.cell < length (written x).names + 2 * length (copies x).slots = e.1 in
          let up : length (written x).names + 2 * length (copies x).slots ≤ where_name n = where_up at in
          (slots_new x s c, (omega (arith, t, up), omega (arith, u, up)));
      wheres =
          let up : length (written x).names + 2 * length (copies x).slots ≤ where_name n = where_up at in
          omega (arith, up);
      addresses = let a = named_up in let b = addresses_up x is k at in omega (arith, a, b);
      room = one_room x is k at i there m (located_is x n i ahead access) (left x m m_lined).stays_it
          (left x m m_lined).same;
    }
