-- What stands behind the last instruction of a block is short: a fetch for each phi, by either table, and one more.
use Rattle.std.proofs.Common.{◌≡◌, inl, inr, ℕ, zero, suc, ◌+◌, ◌*◌, ◌≤◌, Bool, true, false, List, [], ◌∷◌, ◌++◌, length, refl, sym, ap, ◌∙◌, subst, arith}
use Rattle.std.proofs.lemmas.List.{length-append}
use Rattle.std.specs.Prelude.{None, Option, Some, if◌then◌else◌, map, replicate, slice_get, slice_set, unwrap_or, ◌==◌}
use Rattle.pass_frames_proof.specs.flow_solver.Paths.{IsListed}
use Rattle.pass_frames_proof.proofs.ir_laws.facts.Lists.{set_other}
use Rattle.pass_frames_proof.proofs.ir_laws.facts.Truth.{equal_numbers, not_equal}
use Rattle.pass_frames_proof.specs.ir_laws.paths.woven_rules.Pairs.{AreDifferent}
use Rattle.pass_frames_proof.specs.ir_model.declared.instr.Incoming.{Incoming}
use Rattle.pass_frames_proof.specs.ir_model.declared.instr.Instr.{Instr}
use Rattle.pass_frames_proof.specs.ir_model.declared.instr.Phi.{Phi}
use Rattle.pass_frames_proof.specs.ir_model.declared.instr.Terminator.{Terminator}
use Rattle.pass_frames_proof.specs.ir_model.declared.module.Block.{Block}
use Rattle.pass_frames_proof.specs.ir_model.declared.module.Function.{Function}
use Rattle.pass_frames_proof.specs.ir_model.declared.module.Module.{Module}
use Rattle.pass_frames_proof.specs.pass_addresses.Placing.{turned_block, without_markers}
use Rattle.pass_frames_proof.specs.pass_cells.Cells.{fetched_function, fetches_of}
use Rattle.pass_frames_proof.specs.pass_cells.Written.{after_block as after_written, entry_blocks, entry_front, written_blocks}
use Rattle.pass_frames_proof.specs.pass_cells.declared.plan.Plan.{Plan}
use Rattle.pass_frames_proof.specs.pass_copies.BeginCopies.{after_block as after_copied, copied_blocks}
use Rattle.pass_frames_proof.specs.pass_copies.declared.copying.Copying.{Copying}
use Rattle.pass_frames_proof.specs.pass_fetch.Blocks.{end_at, ends_of_blocks, ends_of_incoming, ends_of_phis, fetched_blocks, fetched_incoming, fetched_phis, next_after_block, next_after_phi, next_after_phis, with_end}
use Rattle.pass_frames_proof.specs.pass_fetch.Fetching.{fetch_into, fetch_of, fetches_of_all, next_after}
use Rattle.pass_frames_proof.specs.pass_fetch.Instrs.{term_operands}
use Rattle.pass_frames_proof.specs.pass_fetch.declared.fetch.Fetch.{Fetch}
use Rattle.pass_frames_prices.proofs.bounds.Lengths.{fetches_few}
use Rattle.pass_frames_proof.proofs.jumping.Places.{ends_there}
use Rattle.pass_frames_proof.specs.Code.{address_state, end_addresses, end_code, end_loads, last_state, load_name, slot_table}
use Rattle.pass_frames_proof.specs.Costs.{whole}
use Rattle.pass_frames_proof.specs.Framings.{IsFraming}
use Rattle.pass_frames_prices.specs.Numbers.{blocks_from, from_label, phis_from, phis_of_blocks}
use Rattle.pass_frames_proof.specs.Passes.{block_at, phi_ends}
use Rattle.pass_frames_proof.specs.Places.{Framing, edged, fetched, instrs_at, is_return, marked, named, place, plan, unmarked, with_copies, written}

-- ---- what is fetched for phis at the end of a block

module _ (t : List (Option Fetch)) (label : ℕ) where
  abbrev many : List (List Instr) → ℕ
  many ends = length (end_at ends label)

  set_few : (ends : List (List Instr)) (i : ℕ) (new : List Instr)
      → length (end_at (slice_set ends i new) i) ≤ length new
  set_few [] i new = omega arith
  set_few (r ∷ ends) zero new = omega arith
  set_few (r ∷ ends) (suc i) new = set_few ends i new

  end_few : (ends : List (List Instr)) (from n : ℕ) (o : Option Fetch) (b : Bool) → (from == label) ≡ b
      → many (with_end ends from n o) ≤ many ends + (if b then 1 else 0)
  end_few ends from n None b e = omega arith
  end_few ends from n (Some f) true e =
      let same : from ≡ label = equal_numbers from label e in
      let new : List Instr = end_at ends from ++ fetch_into n f ∷ [] in
      let a = set_few ends from new in
      let b : many (slice_set ends from new) ≡ length (end_at (slice_set ends from new) from) =
      ap (λ (i : ℕ). length (end_at (slice_set ends from new) i)) (sym same) in
      let c : length (end_at ends from) ≡ many ends = ap (λ (i : ℕ). length (end_at ends i)) same in
      let d = length-append (end_at ends from) (fetch_into n f ∷ []) in
      omega (arith, a, b, c, d)
  end_few ends from n (Some f) false e =
      let new : List Instr = end_at ends from ++ fetch_into n f ∷ [] in
      let a : many (slice_set ends from new) ≡ many ends =
      ap (λ (o : Option (List Instr)). length (unwrap_or o []))
      (set_other ends from label new (not_equal from label e)) in
      omega (arith, a)

  incoming_few : (n : ℕ) (ends : List (List Instr)) (is : List Incoming)
      → many (ends_of_incoming t n ends is) ≤ many ends + from_label label is
  incoming_few n ends [] = omega arith
  incoming_few n ends (i ∷ is) =
      let a = end_few ends i.from n (fetch_of t i.value) (i.from == label) refl in
      let b = incoming_few (next_after t n i.value) (with_end ends i.from n (fetch_of t i.value)) is in
      omega (arith, a, b)

  phis_few : (n : ℕ) (ends : List (List Instr)) (ps : List Phi)
      → many (ends_of_phis t n ends ps) ≤ many ends + phis_from label ps
  phis_few n ends [] = omega arith
  phis_few n ends (p ∷ ps) =
      let a = incoming_few n ends p.incoming in
      let b = phis_few (next_after_phi t n p) (ends_of_incoming t n ends p.incoming) ps in
      omega (arith, a, b)

  blocks_few : (n : ℕ) (ends : List (List Instr)) (bs : List Block)
      → many (ends_of_blocks t n ends bs) ≤ many ends + blocks_from label bs
  blocks_few n ends [] = omega arith
  blocks_few n ends (b ∷ bs) =
      let a = phis_few n ends b.phis in
      let c = blocks_few (next_after_phis t n b.phis) (ends_of_phis t n ends b.phis) bs in
      omega (arith, a, c)

  none_many : (n i : ℕ) → length (end_at (replicate {A = List Instr} n []) i) ≡ 0
  none_many zero i = refl
  none_many (suc n) zero = refl
  none_many (suc n) (suc i) = none_many n i

  pub ends_few : (f : Function) → many (phi_ends f t) ≤ blocks_from label f.blocks
  ends_few f =
      let a = blocks_few (length f.names) (replicate (length f.names) []) f.blocks in
      let b = none_many (length f.names) label in
      omega (arith, a, b)

-- ---- the passes leave where operands come from

module _ (label : ℕ) where
  incoming_same : (t : List (Option Fetch)) (n : ℕ) (is : List Incoming)
      → from_label label (fetched_incoming t n is) ≡ from_label label is
  incoming_same t n [] = refl
  incoming_same t n (i ∷ is) =
      ap (λ (k : ℕ). (if i.from == label then 1 else 0) + k) (incoming_same t (next_after t n i.value) is)

  phis_same : (t : List (Option Fetch)) (n : ℕ) (ps : List Phi)
      → phis_from label (fetched_phis t n ps) ≡ phis_from label ps
  phis_same t n [] = refl
  phis_same t n (p ∷ ps) =
      λ k. incoming_same t n p.incoming k + phis_same t (next_after_phi t n p) ps k

  fetched_same : (t : List (Option Fetch)) (ends : List (List Instr)) (m n : ℕ) (bs : List Block)
      → blocks_from label (fetched_blocks t ends m n bs) ≡ blocks_from label bs
  fetched_same t ends m n [] = refl
  fetched_same t ends m n (b ∷ bs) =
      λ k. phis_same t m b.phis k
      + fetched_same t ends (next_after_phis t m b.phis) (next_after_block t n b) bs k

  later_same : (m : Module) (p : Plan) (n : ℕ) (bs : List Block)
      → blocks_from label (written_blocks m p n bs) ≡ blocks_from label bs
  later_same m p n [] = refl
  later_same m p n (b ∷ bs) = ap (λ (k : ℕ). phis_from label b.phis + k) (later_same m p (after_written m p n b) bs)

  written_same : (m : Module) (p : Plan) (front : List Instr) (n : ℕ) (bs : List Block)
      → blocks_from label (entry_blocks m p front n bs) ≡ blocks_from label bs
  written_same m p front n [] = refl
  written_same m p front n (b ∷ bs) =
      ap (λ (k : ℕ). phis_from label b.phis + k) (later_same m p (after_written m p n b) bs)

  copied_same : (c : Copying) (before : List Bool) (front : List Instr) (n : ℕ) (bs : List Block)
      → blocks_from label (copied_blocks c before front n bs) ≡ blocks_from label bs
  copied_same c before front n [] = refl
  copied_same c before front n (b ∷ bs) =
      ap (λ (k : ℕ). phis_from label b.phis + k) (copied_same c before [] (after_copied c before n b) bs)

  turned_same : (turned : List Instr → List Instr) (bs : List Block)
      → blocks_from label (map (turned_block turned) bs) ≡ blocks_from label bs
  turned_same turned [] = refl
  turned_same turned (b ∷ bs) = ap (λ (k : ℕ). phis_from label b.phis + k) (turned_same turned bs)

  loaded_same : (p : Plan) (f : Function)
      → blocks_from label (fetched_function p f).blocks ≡ blocks_from label f.blocks
  unfolding fetched_function
  loaded_same p f = fetched_same (fetches_of p) _ _ _ f.blocks

  pub unmarked_same : (x : Framing) → blocks_from label (unmarked x).blocks ≡ blocks_from label (edged x).blocks
  unmarked_same x =
      turned_same _ (without_markers (marked x) (with_copies x)).blocks
      ∙ turned_same _ (with_copies x).blocks
      ∙ copied_same _ _ _ _ (written x).blocks
      ∙ written_same x.code (plan x) (entry_front (plan x) (fetched x).params) (length (fetched x).names)
      (fetched x).blocks
      ∙ loaded_same (plan x) (edged x)

-- ---- one operand of a phi comes from a label

abbrev labels_of : List Incoming → List ℕ
labels_of is = map (λ (i : Incoming). i.from) is

none_from : (label : ℕ) (is : List Incoming) → (IsListed label (labels_of is) → ⊥) → from_label label is ≡ 0
none_from label [] h = refl
none_from label (i ∷ is) h = on (i.from == label) refl (none_from label is (λ l. h (inr l)))
  where
    on : (b : Bool) → (i.from == label) ≡ b → from_label label is ≡ 0
        → (if b then 1 else 0) + from_label label is ≡ 0
    on true e a = absurd (h (inl (sym (equal_numbers i.from label e))))
    on false e a = omega (arith, a)

one_from : (label : ℕ) (is : List Incoming) → AreDifferent (labels_of is) → from_label label is ≤ 1
one_from label [] d = omega arith
one_from label (i ∷ is) d = on (i.from == label) refl (one_from label is d.1)
  where
    on : (b : Bool) → (i.from == label) ≡ b → from_label label is ≤ 1 → (if b then 1 else 0) + from_label label is ≤ 1
    on true e le =
        let same : i.from ≡ label = equal_numbers i.from label e in
        let a = none_from label is (λ l. d.0 (subst (λ (u : ℕ). IsListed u (labels_of is)) (sym same) l)) in
        omega (arith, a)
    on false e le = omega (arith, le)

phis_once : (label : ℕ) (ps : List Phi)
    → ((j : ℕ) (p : Phi) → slice_get ps j ≡ Some p → AreDifferent (labels_of p.incoming))
    → phis_from label ps ≤ length ps
phis_once label [] h = omega arith
phis_once label (p ∷ ps) h =
    let a = one_from label p.incoming (h 0 p refl) in
    let b = phis_once label ps (λ j q e. h (suc j) q e) in
    omega (arith, a, b)

blocks_once : (label : ℕ) (bs : List Block)
    → ((k j : ℕ) (b : Block) (p : Phi) → slice_get bs k ≡ Some b → slice_get b.phis j ≡ Some p
    → AreDifferent (labels_of p.incoming))
    → blocks_from label bs ≤ phis_of_blocks bs
blocks_once label [] h = omega arith
blocks_once label (b ∷ bs) h =
    let a = phis_once label b.phis (λ j p e. h 0 j b p refl e) in
    let c = blocks_once label bs (λ k j d p e f. h (suc k) j d p e f) in
    omega (arith, a, c)

-- ---- the end of a block

term_few : (t : Terminator) → length (term_operands t) ≤ 1
term_few (Terminator.Jump label) = omega arith
term_few (Terminator.Branch c a b) = omega arith
term_few (Terminator.Switch arg default cases) = omega arith
term_few (Terminator.Ret None) = omega arith
term_few (Terminator.Ret (Some a)) = omega arith
term_few Terminator.Unreachable = omega arith

module _ (x : Framing) (is : IsFraming x) (k : ℕ) where
  loads_few : length (end_loads x k (last_state x k)) ≤ phis_of_blocks (edged x).blocks + 1
  loads_few =
      let label : ℕ = (block_at (edged x) k).label in
      let t : List (Option Fetch) = fetches_of (plan x) in
      let ops = term_operands (block_at (edged x) k).term in
      let a = ends_few t label (named x) in
      let b = blocks_once label (edged x).blocks is.frameable.once in
      let c = fetches_few t (load_name (last_state x k)) ops in
      let d = term_few (block_at (edged x) k).term in
      let e = length-append (end_at (phi_ends (named x) t) label)
      (fetches_of_all t (load_name (last_state x k)) ops) in
      omega (arith, a, b, c, d, e)

  addresses_few : length (end_addresses x k (last_state x k)) ≤ phis_of_blocks (edged x).blocks + 1
  addresses_few =
      let label : ℕ = (block_at (unmarked x) k).label in
      let t : List (Option Fetch) = slot_table x in
      let ops = term_operands (block_at (unmarked x) k).term in
      let a = ends_few t label (unmarked x) in
      let b = blocks_once label (edged x).blocks is.frameable.once in
      let c = fetches_few t (address_state (last_state x k)).0 ops in
      let d = term_few (block_at (unmarked x) k).term in
      let e = length-append (end_at (phi_ends (unmarked x) t) label)
      (fetches_of_all t (address_state (last_state x k)).0 ops) in
      let f = unmarked_same label x in
      omega (arith, a, b, c, d, e, f)

  pub end_short : length (end_code x k (last_state x k)) ≤ 2 * phis_of_blocks (edged x).blocks + 2
  end_short =
      let a = loads_few in
      let b = addresses_few in
      let e = length-append (end_loads x k (last_state x k)) (end_addresses x k (last_state x k)) in
      omega (arith, a, b, e)

  pub end_cost_short : slice_get (edged x).blocks k ≡ Some (block_at (edged x) k) → is_return x k ≡ false
      → whole x k ≤ (place x (record { block = k; at = length (instrs_at x k) })).at
      + (2 * phis_of_blocks (edged x).blocks + 3)
  end_cost_short there unreturned =
      let a = end_short in
      let b = (ends_there x is k there unreturned).whole in
      omega (arith, a, b)
