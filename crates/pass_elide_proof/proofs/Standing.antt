-- What stands in a function whose calls give their callees frames.
use Rattle.std.proofs.Common.{◌≡◌, ◌≤◌, ◌+◌, ◌-◌, ℕ, zero, suc, List, [], ◌∷◌, ◌++◌, length, refl, ap, sym, subst, ◌∙◌, arith, length-append}
use Rattle.std.specs.Prelude.{None, Some, Option, option_map, slice_get, unwrap_or, ◌==◌, if◌then◌else◌}
use Rattle.pass_elide.specs.Elided.{behind, elided_block, elided_blocks, elided_by, elided_function, elided_instrs, instr_frames, frame_address, frames_by, with_front}
use Rattle.pass_elide.specs.declared.given.GivenFrame.{GivenFrame}
use Rattle.pass_elide_proof.specs.Places.{HasCode, Rooms, ahead, allocas_ahead, elided_instr, instrs_in, own_at, put_by, put_up_to, rooms_before, rooms_up_to}
use Rattle.pass_proofs.proofs.ir_laws.facts.Lists.{get_behind, of_first}
use Rattle.pass_proofs.proofs.ir_laws.facts.Truth.{itself}
use Rattle.pass_proofs.specs.ir_model.Names.{first_where, position_of}
use Rattle.pass_proofs.specs.ir_model.declared.instr.Instr.{Instr}
use Rattle.pass_proofs.specs.ir_model.declared.module.Block.{Block}
use Rattle.pass_proofs.specs.ir_model.declared.module.Function.{Function}
use Rattle.pass_proofs.specs.pass_fetch.Fetching.{address_behind}
use Rattle.pass_proofs.specs.run_laws.access.Lines.{StandAt}
use Rattle.pass_proofs.specs.run_step.Step.{AtInstr, AtTerm, fetch, fetch_in, fetch_or, phis_of}

-- ---- one instruction

pub long : (n : ℕ) (o : Option GivenFrame) (i : Instr) → length (elided_by n o i) ≡ 1 + put_by o
long n None i = refl
long n (Some (GivenFrame.Alloca size align)) i = refl
long n (Some (GivenFrame.Field base distance)) i = refl

first : (n q : ℕ) (o : Option GivenFrame) (i : Instr) (rest : List Instr) → q ≡ put_by o
    → slice_get (elided_by n o i ++ rest) q ≡ Some (elided_instr n o i)
first n q None i rest e = subst (λ j. slice_get (elided_by n None i ++ rest) j ≡ Some i) (sym e) refl
first n q (Some (GivenFrame.Alloca size align)) i rest e =
    subst (λ j. slice_get (elided_by n (Some (GivenFrame.Alloca size align)) i ++ rest) j
    ≡ Some (elided_instr n (Some (GivenFrame.Alloca size align)) i)) (sym e) refl
first n q (Some (GivenFrame.Field base distance)) i rest e =
    subst (λ j. slice_get (elided_by n (Some (GivenFrame.Field base distance)) i ++ rest) j
    ≡ Some (elided_instr n (Some (GivenFrame.Field base distance)) i)) (sym e) refl

address : (n q : ℕ) (o : Option GivenFrame) (i : Instr) (rest : List Instr) (base distance : ℕ)
    → o ≡ Some (GivenFrame.Field base distance) → q + 1 ≡ put_by o
    → slice_get (elided_by n o i ++ rest) q ≡ Some (address_behind n base distance)
address n q None i rest base distance is e = absurd (cc)
address n q (Some (GivenFrame.Alloca size align)) i rest base distance is e = absurd (omega (arith, e))
address n q (Some (GivenFrame.Field b d)) i rest base distance is e =
    let same : b ≡ base = cc in
    let far : d ≡ distance = cc in
    let at : 0 ≡ q = omega (arith, e) in
    subst (λ j. slice_get (elided_by n (Some (GivenFrame.Field b d)) i ++ rest) j ≡ Some (address_behind n base distance)) at
    (λ k. Some (address_behind n (same k) (far k)))

-- ---- the instructions of a block, from a position on

pub there : (room : ℕ → Instr → Option GivenFrame) (at n : ℕ) (is : List Instr) (k q name p : ℕ) (i : Instr)
    → slice_get is k ≡ Some i → q ≡ k + put_up_to room at is k → name ≡ n + rooms_up_to room at is k → p ≡ at + k
    → slice_get (elided_instrs room at n is) q ≡ Some (elided_instr name (room p i) i)
there room at n [] k q name p i e qe ne pe = absurd (cc)
there room at n (x ∷ xs) zero q name p i e qe ne pe =
    let same : x ≡ i = cc in
    let new : n ≡ name = omega (arith, ne) in
    let place : at ≡ p = omega (arith, pe) in
    let here : q ≡ put_by (room at x) = omega (arith, qe) in
    first n q (room at x) x (elided_instrs room (at + 1) (length (frames_by (room at x)) + n) xs) here
    ∙ (λ j. Some (elided_instr (new j) (room (place j) (same j)) (same j)))
there room at n (x ∷ xs) (suc k) q name p i e qe ne pe =
    let size = long n (room at x) x in
    let rest = elided_instrs room (at + 1) (length (frames_by (room at x)) + n) xs in
    let on = k + put_up_to room (at + 1) xs k in
    let here : q ≡ length (elided_by n (room at x) x) + (k + put_up_to room (at + 1) xs k) = omega (arith, qe, size) in
    ap (slice_get (elided_by n (room at x) x ++ rest)) here
    ∙ (get_behind (elided_by n (room at x) x) rest on
    ∙ there room (at + 1) (length (frames_by (room at x)) + n) xs k on name p i e refl (omega (arith, ne))
    (omega (arith, pe)))

-- a call with a field has its address in front
put_more : (room : ℕ → Instr → Option GivenFrame) (at p : ℕ) (is : List Instr) (k : ℕ) (i : Instr) (base distance : ℕ)
    → slice_get is k ≡ Some i → room p i ≡ Some (GivenFrame.Field base distance) → p ≡ at + k
    → 1 ≤ put_up_to room at is k
put_more room at p [] k i base distance e re pe = absurd (cc)
put_more room at p (x ∷ xs) zero i base distance e re pe =
    let same : x ≡ i = cc in
    let place : at ≡ p = omega (arith, pe) in
    let one : put_by (room at x) ≡ 1 = ap put_by ((λ j. room (place j) (same j)) ∙ re) in
    omega (arith, one)
put_more room at p (x ∷ xs) (suc k) i base distance e re pe =
    let more = put_more room (at + 1) p xs k i base distance e re (omega (arith, pe)) in
    omega (arith, more)

pub put_there : (room : ℕ → Instr → Option GivenFrame) (at n : ℕ) (is : List Instr) (k q name p : ℕ) (i : Instr)
    (base distance : ℕ) → slice_get is k ≡ Some i → room p i ≡ Some (GivenFrame.Field base distance)
    → q + 1 ≡ k + put_up_to room at is k → name ≡ n + rooms_up_to room at is k → p ≡ at + k
    → slice_get (elided_instrs room at n is) q ≡ Some (address_behind name base distance)
put_there room at n [] k q name p i base distance e re qe ne pe = absurd (cc)
put_there room at n (x ∷ xs) zero q name p i base distance e re qe ne pe =
    let same : x ≡ i = cc in
    let new : n ≡ name = omega (arith, ne) in
    let place : at ≡ p = omega (arith, pe) in
    let here : q + 1 ≡ put_by (room at x) = omega (arith, qe) in
    address n q (room at x) x (elided_instrs room (at + 1) (length (frames_by (room at x)) + n) xs) base distance
    ((λ j. room (place j) (same j)) ∙ re) here ∙ (λ j. Some (address_behind (new j) base distance))
put_there room at n (x ∷ xs) (suc k) q name p i base distance e re qe ne pe =
    let size = long n (room at x) x in
    let more = put_more room (at + 1) p xs k i base distance e re (omega (arith, pe)) in
    let rest = elided_instrs room (at + 1) (length (frames_by (room at x)) + n) xs in
    let on = k + put_up_to room (at + 1) xs k - 1 in
    let here : q ≡ length (elided_by n (room at x) x) + (k + put_up_to room (at + 1) xs k - 1)
    = omega (arith, qe, size, more) in
    let back : (k + put_up_to room (at + 1) xs k - 1) + 1 ≡ k + put_up_to room (at + 1) xs k = omega (arith, more) in
    ap (slice_get (elided_by n (room at x) x ++ rest)) here
    ∙ (get_behind (elided_by n (room at x) x) rest on
    ∙ put_there room (at + 1) (length (frames_by (room at x)) + n) xs k on name p i base distance e re back
    (omega (arith, ne)) (omega (arith, pe)))

pub longer : (room : ℕ → Instr → Option GivenFrame) (at n : ℕ) (is : List Instr)
    → length (elided_instrs room at n is) ≡ length is + put_up_to room at is (length is)
longer room at n [] = refl
longer room at n (x ∷ xs) =
    let size = long n (room at x) x in
    let again = longer room (at + 1) (length (frames_by (room at x)) + n) xs in
    let both = length-append (elided_by n (room at x) x)
    (elided_instrs room (at + 1) (length (frames_by (room at x)) + n) xs) in
    omega (arith, size, again, both)

-- ---- blocks, from a position on

pub block_there : (room : Rooms) (s n : ℕ) (bs : List Block) (k p name : ℕ) (b : Block) → slice_get bs k ≡ Some b
    → p ≡ s + k → name ≡ n + rooms_before room s bs k
    → slice_get (elided_blocks room s n bs) k ≡ Some (elided_block room p name b)
block_there room s n [] k p name b e pe ne = absurd (cc)
block_there room s n (x ∷ xs) zero p name b e pe ne =
    let same : x ≡ b = cc in
    let place : s ≡ p = omega (arith, pe) in
    let new : n ≡ name = omega (arith, ne) in
    λ j. Some (elided_block room (place j) (new j) (same j))
block_there room s n (x ∷ xs) (suc k) p name b e pe ne =
    block_there room (s + 1) (length (instr_frames (room s) (length x.phis) x.instrs) + n) xs k p name b e
    (omega (arith, pe)) (omega (arith, ne))

front_zero : (front : List Instr) (cs : List Block) (c : Block) → slice_get cs 0 ≡ Some c
    → slice_get (with_front front cs) 0 ≡ Some (behind front c)
front_zero front [] c e = absurd (cc)
front_zero front (x ∷ xs) c e = let same : x ≡ c = cc in ap (λ (b : Block). Some (behind front b)) same

front_more : (front : List Instr) (cs : List Block) (k : ℕ)
    → slice_get (with_front front cs) (suc k) ≡ slice_get cs (suc k)
front_more front [] k = refl
front_more front (x ∷ xs) k = refl

-- ---- labels and phis

label_first : (room : Rooms) (s n label : ℕ) (bs : List Block)
    → first_where (λ (b : Block). b.label == label) (elided_blocks room s n bs)
    ≡ first_where (λ (b : Block). b.label == label) bs
label_first room s n label [] = refl
label_first room s n label (x ∷ xs) =
    λ j. if x.label == label then Some 0
    else option_map suc
    (label_first room (s + 1) (length (instr_frames (room s) (length x.phis) x.instrs) + n) label xs j)

label_front : (front : List Instr) (label : ℕ) (cs : List Block)
    → first_where (λ (b : Block). b.label == label) (with_front front cs)
    ≡ first_where (λ (b : Block). b.label == label) cs
label_front front label [] = refl
label_front front label (x ∷ xs) = refl

blocks_count : (room : Rooms) (s n : ℕ) (bs : List Block) → length (elided_blocks room s n bs) ≡ length bs
blocks_count room s n [] = refl
blocks_count room s n (x ∷ xs) =
    ap suc (blocks_count room (s + 1) (length (instr_frames (room s) (length x.phis) x.instrs) + n) xs)

front_count : (front : List Instr) (cs : List Block) → length (with_front front cs) ≡ length cs
front_count front [] = refl
front_count front (x ∷ xs) = refl

blocks_phis : (room : Rooms) (s n : ℕ) (bs : List Block) (k : ℕ)
    → phis_of (slice_get (elided_blocks room s n bs) k) ≡ phis_of (slice_get bs k)
blocks_phis room s n [] k = refl
blocks_phis room s n (x ∷ xs) zero = refl
blocks_phis room s n (x ∷ xs) (suc k) =
    blocks_phis room (s + 1) (length (instr_frames (room s) (length x.phis) x.instrs) + n) xs k

front_phis : (front : List Instr) (cs : List Block) (k : ℕ)
    → phis_of (slice_get (with_front front cs) k) ≡ phis_of (slice_get cs k)
front_phis front [] k = refl
front_phis front (x ∷ xs) zero = refl
front_phis front (x ∷ xs) (suc k) = refl

-- ---- fetching

none_behind : (xs : List Instr) → slice_get xs (length xs) ≡ None
none_behind [] = refl
none_behind (x ∷ xs) = none_behind xs

module _ (f : Function) (k : ℕ) (c : Block) (is : slice_get f.blocks k ≡ Some c) where
  instr_fetched : (at : ℕ) (i : Instr) → slice_get c.instrs at ≡ Some i → fetch f k at ≡ AtInstr i
  instr_fetched at i e =
      ap (λ (o : Option Block). fetch_in o at) is
      ∙ ap (λ (o : Option Instr). fetch_or o (at == length c.instrs) c.term) e

  term_fetched : (at : ℕ) → at ≡ length c.instrs → fetch f k at ≡ AtTerm c.term
  term_fetched at e =
      ap (fetch f k) e
      ∙ (ap (λ (o : Option Block). fetch_in o (length c.instrs)) is
      ∙ (λ j. fetch_or (none_behind c.instrs j) (itself (length c.instrs) j) c.term))

  stands : (at : ℕ) (xs : List Instr) → ((j : ℕ) (i : Instr) → slice_get xs j
      ≡ Some i → slice_get c.instrs (at + j) ≡ Some i)
      → StandAt f k at xs
  stands at [] each = tt
  stands at (x ∷ xs) each =
      let here : at ≡ at + 0 = omega arith in (
        instr_fetched at x (ap (slice_get c.instrs) here ∙ each 0 x refl),
        stands (at + 1) xs
            (λ j i e. let next : at + 1 + j ≡ at + suc j = omega arith in
            ap (slice_get c.instrs) next ∙ each (suc j) i e),
      )

-- ---- the function

module _ (room : Rooms) (f : Function) where
  abbrev whole : Function
  whole = elided_function room f

  abbrev inner : List Block
  inner = elided_blocks room 0 (length f.names) f.blocks

  -- the block at a position, with its first new name
  abbrev made : ℕ → Block → Block
  made k b = elided_block room k (length f.names + rooms_before room 0 f.blocks k) b

  inner_there : (k : ℕ) (b : Block) → slice_get f.blocks k ≡ Some b → slice_get inner k ≡ Some (made k b)
  inner_there k b e =
      block_there room 0 (length f.names) f.blocks k k (length f.names + rooms_before room 0 f.blocks k) b e
      (omega arith) refl

  zero_there : (b : Block) → slice_get f.blocks 0 ≡ Some b
      → slice_get whole.blocks 0 ≡ Some (behind (allocas_ahead room f) (made 0 b))
  zero_there b e = front_zero (allocas_ahead room f) inner (made 0 b) (inner_there 0 b e)

  more_there : (k : ℕ) (b : Block) → slice_get f.blocks (suc k) ≡ Some b
      → slice_get whole.blocks (suc k) ≡ Some (made (suc k) b)
  more_there k b e = front_more (allocas_ahead room f) inner k ∙ inner_there (suc k) b e

  -- ---- an instruction of a block, at the position that it comes to

  fetched : (k : ℕ) (b : Block) (at : ℕ) (i : Instr) → slice_get f.blocks k ≡ Some b
      → slice_get (made k b).instrs at ≡ Some i → fetch whole k (ahead room f k + at) ≡ AtInstr i
  fetched zero b at i there e =
      instr_fetched whole 0 (behind (allocas_ahead room f) (made 0 b)) (zero_there b there)
      (length (allocas_ahead room f) + at) i (get_behind (allocas_ahead room f) (made 0 b).instrs at ∙ e)
  fetched (suc k) b at i there e =
      let here : 0 + at ≡ at = omega arith in
      instr_fetched whole (suc k) (made (suc k) b) (more_there k b there) (0 + at) i
      (ap (slice_get (made (suc k) b).instrs) here ∙ e)

  ended : (k : ℕ) (b : Block) (at : ℕ) → slice_get f.blocks k ≡ Some b → at ≡ length (made k b).instrs
      → fetch whole k (ahead room f k + at) ≡ AtTerm b.term
  ended zero b at there e =
      let both = length-append (allocas_ahead room f) (made 0 b).instrs in
      term_fetched whole 0 (behind (allocas_ahead room f) (made 0 b)) (zero_there b there)
      (length (allocas_ahead room f) + at) (omega (arith, both, e))
  ended (suc k) b at there e =
      term_fetched whole (suc k) (made (suc k) b) (more_there k b there) (0 + at) (omega (arith, e))

  -- ---- by what stands at a position of the function

  abbrev own_by : Option Block → (k at : ℕ) → ℕ
  own_by o k at = ahead room f k + (at + put_up_to (room k) (length (phis_of o)) (instrs_in o) at)

  abbrev name_by : Option Block → (k at : ℕ) → ℕ
  name_by o k at =
      length f.names + (rooms_before room 0 f.blocks k + rooms_up_to (room k) (length (phis_of o)) (instrs_in o) at)

  instr_by : (o : Option Block) (k at : ℕ) (i : Instr) → slice_get f.blocks k ≡ o → slice_get (instrs_in o) at ≡ Some i
      → fetch whole k (own_by o k at)
      ≡ AtInstr (elided_instr (name_by o k at) (room k (length (phis_of o) + at) i) i)
  instr_by None k at i there e = absurd (cc)
  instr_by (Some b) k at i is e =
      fetched k b (at + put_up_to (room k) (length b.phis) b.instrs at)
      (elided_instr (name_by (Some b) k at) (room k (length b.phis + at) i) i) is
      (there (room k) (length b.phis) (length f.names + rooms_before room 0 f.blocks k) b.instrs at
      (at + put_up_to (room k) (length b.phis) b.instrs at) (name_by (Some b) k at) (length b.phis + at) i e refl
      (omega arith) refl)

  address_by : (o : Option Block) (k at before : ℕ) (i : Instr) (base distance : ℕ) → slice_get f.blocks k ≡ o
      → slice_get (instrs_in o) at ≡ Some i
      → room k (length (phis_of o) + at) i ≡ Some (GivenFrame.Field base distance) → before + 1 ≡ own_by o k at
      → StandAt whole k before (frame_address (name_by o k at) (GivenFrame.Field base distance))
  address_by None k at before i base distance there e re be = absurd (cc)
  address_by (Some b) k at before i base distance is e re be =
      let more = put_more (room k) (length b.phis) (length b.phis + at) b.instrs at i base distance e re refl in
      let on = at + put_up_to (room k) (length b.phis) b.instrs at - 1 in
      let back : (at + put_up_to (room k) (length b.phis) b.instrs at - 1) + 1
      ≡ at + put_up_to (room k) (length b.phis) b.instrs at = omega (arith, more) in
      let here : before ≡ ahead room f k + (at + put_up_to (room k) (length b.phis) b.instrs at - 1)
      = omega (arith, more, be) in (
        ap (fetch whole k) here
            ∙ fetched k b on (address_behind (name_by (Some b) k at) base distance) is
            (put_there (room k) (length b.phis) (length f.names + rooms_before room 0 f.blocks k) b.instrs at on
            (name_by (Some b) k at) (length b.phis + at) i base distance e re back (omega arith) refl),
        tt,
      )

  term_at : (k : ℕ) (b : Block) → slice_get f.blocks k ≡ Some b
      → fetch whole k (own_by (Some b) k (length b.instrs)) ≡ AtTerm b.term
  term_at k b is =
      ended k b (length b.instrs + put_up_to (room k) (length b.phis) b.instrs (length b.instrs)) is
      (sym (longer (room k) (length b.phis) (length f.names + rooms_before room 0 f.blocks k) b.instrs))

  term_by : (k : ℕ) (b : Block) → slice_get f.blocks k ≡ Some b
      → fetch whole k (own_at room f k (length b.instrs)) ≡ AtTerm b.term
  term_by k b is =
      subst (λ (o : Option Block). fetch whole k (own_by o k (length b.instrs))
      ≡ AtTerm b.term) (sym is) (term_at k b is)

  allocas_stand : (b : Block) → slice_get f.blocks 0 ≡ Some b → StandAt whole 0 0 (allocas_ahead room f)
  allocas_stand b is =
      stands whole 0 (behind (allocas_ahead room f) (made 0 b)) (zero_there b is) 0 (allocas_ahead room f)
      (λ j i e. let here : 0 + j ≡ j = omega arith in
      ap (slice_get (allocas_ahead room f ++ (made 0 b).instrs)) here
      ∙ of_first (allocas_ahead room f) (made 0 b).instrs j i e)

  positions : (label : ℕ) → position_of whole label ≡ position_of f label
  positions label =
      λ j. unwrap_or
      ((label_front (allocas_ahead room f) label inner ∙ label_first room 0 (length f.names) label f.blocks) j)
      ((front_count (allocas_ahead room f) inner ∙ blocks_count room 0 (length f.names) f.blocks) j)

  pub has_code : HasCode room f (elided_function room f)
  has_code = record {
    instr = λ k at i. instr_by (slice_get f.blocks k) k at i refl;
    address = λ k at before i base distance. address_by (slice_get f.blocks k) k at before i base distance refl;
    term = term_by;
    allocas = allocas_stand;
    labels = positions;
    phis = λ k. front_phis (allocas_ahead room f) inner k ∙ blocks_phis room 0 (length f.names) f.blocks k;
  }
