-- What stands in front of an entry: all allocas, and then stores alone.
use Rattle.std.proofs.Common.{◌≡◌, ◌≤◌, ◌++◌, ◌∙◌, ◌∷◌, [], Bool, List, None, Some, ap, append-nil, arith, false, inl, inr, length, refl, subst, true, ℕ}
use Rattle.std.specs.List.{Contains}
use Rattle.std.specs.Prelude.{Option, option_to_list, if◌then◌else◌}
use Rattle.pass_frames_steps.specs.flow_solver.Paths.{IsListed}
use Rattle.pass_frames_steps.proofs.ir_laws.facts.Members.{each_joined, each_turns}
use Rattle.pass_frames_steps.specs.ir_model.Ty.{Ty}
use Rattle.pass_frames_steps.specs.ir_model.declared.instr.Instr.{Instr}
use Rattle.pass_frames_steps.specs.ir_model.declared.module.Block.{Block}
use Rattle.pass_frames_steps.specs.ir_model.declared.module.Param.{Param}
use Rattle.pass_frames_steps.specs.pass_addresses.Placing.{lies_outside}
use Rattle.pass_frames_steps.specs.pass_cells.Moves.{again_values}
use Rattle.pass_frames_steps.specs.pass_cells.Written.{after_blocks as after_written, entry_front as cells_front, kept_allocas, link_allocas, row_at, stored, stored_params, stored_phis}
use Rattle.pass_frames_steps.specs.pass_cells.declared.plan.KeptValue.{KeptValue}
use Rattle.pass_frames_steps.specs.pass_copies.BeginCopies.{entry_front as copies_front, puts, slot_allocas}
use Rattle.pass_frames_steps.specs.pass_copies.declared.slot.EarlySlot.{EarlySlot}
use Rattle.pass_frames_steps.specs.pass_fetch.Blocks.{end_at}
use Rattle.pass_frames_steps.specs.pass_fetch.declared.fetch.Fetch.{Fetch}
use Rattle.pass_frames_steps.proofs.code.Ends.{front_is, kept_each, links_each, slots_each}
use Rattle.pass_frames_steps.proofs.code.Framed.{entry_made}
use Rattle.pass_frames_steps.proofs.code.Left.{Far, IsCalm, IsMove, calm_addressed, far_named, stored_calm}
use Rattle.pass_frames_steps.proofs.code.Names.{far_left}
use Rattle.pass_frames_proof.proofs.from_edges.Front.{listed_contains}
use Rattle.pass_frames_proof.proofs.jumping.Places.{made_front}
use Rattle.pass_frames_steps.proofs.layers.Grown.{grown_append, passed_append}
use Rattle.pass_frames_steps.proofs.layers.Idle.{all_stay, state_stays}
use Rattle.pass_frames_steps.proofs.layers.Standing.{first_place}
use Rattle.pass_frames_proof.proofs.ramps.Entry.{IsBareEntry, bare_entry}
use Rattle.pass_frames_steps.proofs.stepping.Codes.{stay_all}
use Rattle.pass_frames_steps.proofs.stepping.Names.{named_written, slots_new}
use Rattle.pass_frames_steps.specs.Code.{front_moves, slot_table}
use Rattle.pass_frames_steps.specs.Entered.{temporary_of}
use Rattle.pass_frames_steps.specs.Entering.{front_allocas}
use Rattle.pass_frames_steps.specs.Entry.{puts_of}
use Rattle.pass_frames_steps.specs.Framings.{IsFraming}
use Rattle.pass_frames_steps.specs.Layers.{IsIdle, Layer, both, grown, only, passed}
use Rattle.pass_frames_steps.specs.Passes.{block_at, fetched_first, fetching, phi_ends}
use Rattle.pass_frames_steps.specs.Places.{Framing, addressing_layer, copies, edged, entry_layer, fetched, framed, instrs_at, named, offsets, place_by, placed_layer, plan, unmarked, written}
use Rattle.pass_frames_steps.specs.Ramps.{HasEntryFront, IsPlainEntry, entry_stores}
use Rattle.pass_frames_steps.specs.pass_front.Front.{is_no_alloca}
use Rattle.pass_frames_steps.specs.run_laws.access.Lines.{StandAt}
use Rattle.pass_frames_steps.specs.run_laws.changed.Changed.{Each}

-- ---- what is no alloca, of what a layer makes of a list

module _ {S : Type 0} (A : Layer S) (s : S) where
  abbrev pub rest_of : List Instr → List Instr
  rest_of js = grown (only is_no_alloca) tt (grown A s js)

  -- of the list so much is left, and the state stays
  abbrev pub Leaves : List Instr → List Instr → Type 0
  Leaves js out = (rest_of js ≡ out) × (passed A s js ≡ s)

  pub leaves_joined : (xs ys o p : List Instr) → Leaves xs o → Leaves ys p → Leaves (xs ++ ys) (o ++ p)
  leaves_joined xs ys o p h k = (
    ap (grown (only is_no_alloca) tt) (grown_append A s xs ys ∙ ap (λ (q : S). grown A s xs ++ grown A q ys) h.1)
        ∙ grown_append (only is_no_alloca) tt (grown A s xs) (grown A s ys)
        ∙ (λ i. h.0 i ++ k.0 i),
    passed_append A s xs ys ∙ ap (λ (q : S). passed A q ys) h.1 ∙ k.1,
  )

  pub leaves_idle : (js : List Instr) → Each (IsIdle A) js → Each (λ (j : Instr). is_no_alloca j ≡ true) js
      → Leaves js js
  leaves_idle js idle none = (
    ap (grown (only is_no_alloca) tt) (all_stay A js idle s) ∙ all_stay (only is_no_alloca) js (stay_all js none) tt,
    state_stays A js idle s,
  )

  -- an alloca of which nothing is left
  abbrev pub Goes : Instr → Type 0
  Goes j = Leaves (j ∷ []) []

  pub leaves_none : (js : List Instr) → Each Goes js → Leaves js []
  leaves_none [] h = (refl, refl)
  leaves_none (j ∷ js) h = leaves_joined (j ∷ []) js [] [] h.0 (leaves_none js h.1)

move_no_alloca : (i : Instr) → IsMove i → is_no_alloca i ≡ true
move_no_alloca (Instr.Binary r op flags ty a b) m = refl
move_no_alloca (Instr.Cast r op nneg a to) m = refl
move_no_alloca (Instr.Load r ty p align) m = refl
move_no_alloca (Instr.Store a p align) m = refl
move_no_alloca (Instr.Gep r inbounds ty p indices) m = refl
move_no_alloca _ m = absurd m

-- ---- allocas go, whether they lie in the frame or not

goes_by : (t : List (Option Fetch)) (ends : List Instr) (first : ℕ) (c : Block) (offs : List (Option ℕ))
    (s : ℕ × Unit {0}) (r : ℕ) (ty : Ty) (align : ℕ)
    → Goes (both (fetching t ends first c) (only (lies_outside offs))) s (Instr.Alloca r ty align)
goes_by t ends first c offs s r ty align = (on (lies_outside offs (Instr.Alloca r ty align)), refl)
  where
    on : (q : Bool) → grown (only is_no_alloca) tt
        ((option_to_list (if q then Some (Instr.Alloca r ty align) else None) ++ []) ++ []) ≡ []
    on true = refl
    on false = refl

-- ---- the entry

module _ (x : Framing) (is : IsFraming x) (plain : IsPlainEntry x) where
  e : IsBareEntry x
  e = bare_entry x is plain

  abbrev pub A : Layer (ℕ × Unit {0})
  A = addressing_layer x 0

  abbrev pub start : ℕ × Unit {0}
  start = A.start

  abbrev pub ss : List EarlySlot
  ss = (copies x).slots

  abbrev pub kept : List KeptValue
  kept = (plan x).kept

  abbrev pub all_cells : List Instr
  all_cells = kept_allocas kept ++ link_allocas (plan x).first (length kept) (plan x).links

  abbrev pub stores : List Instr
  stores = stored_params (plan x) (edged x).params

  abbrev first : ℕ
  first = after_written x.code (plan x) (length (fetched x).names) []

  pub moves_are : front_moves x 0
      ≡ (copies_front ss ++ []) ++ ((cells_front (plan x) (edged x).params ++ []) ++ [])
  moves_are = λ i.
      (copies_front ss ++ (if e.unresumed i then puts ss else []))
      ++ ((cells_front (plan x) (edged x).params ++ again_values kept first (row_at (plan x).rows (e.unread i)))
      ++ stored_phis (plan x) (e.no_phis i))

  -- ---- allocas go

  alloca_goes : (r : ℕ) (ty : Ty) (align : ℕ) → Goes A start (Instr.Alloca r ty align)
  alloca_goes =
      goes_by (slot_table x) (end_at (phi_ends (unmarked x) (slot_table x)) (block_at (unmarked x) 0).label)
      (fetched_first (unmarked x) (slot_table x) 0) (block_at (unmarked x) 0) (offsets x) start

  -- ---- stores stay

  calm_leaves : (js : List Instr) → Each (IsCalm x is) js → Leaves A start js js
  calm_leaves js calm =
      leaves_idle A start js (each_turns (IsCalm x is) (IsIdle A) (calm_addressed x is 0) js calm)
      (each_turns (IsCalm x is) (λ (j : Instr). is_no_alloca j ≡ true) (λ j c. move_no_alloca j c.0) js calm)

  params_calm : (ps : List Param) → Each (IsCalm x is) (stored_params (plan x) ps)
  params_calm [] = tt
  params_calm (p ∷ ps) =
      each_joined (IsCalm x is) (stored (plan x) p.name) (stored_params (plan x) ps) (stored_calm x is p.name)
      (params_calm ps)

  slot_high : (s : EarlySlot) → Contains ss s → (Far x is ≤ s.temporary) × (Far x is ≤ s.cell)
  slot_high s l =
      let new = slots_new x s l in
      let a : length (written x).names ≤ s.temporary = new.0 in
      let c : length (written x).names ≤ s.cell = new.1 in
      let far : Far x is ≤ length (named x).names = far_named x is in
      let more : length (named x).names ≤ length (written x).names = named_written x in
      (omega (arith, a, far, more), omega (arith, c, far, more))

  puts_calm : (zs : List EarlySlot)
      → ((s : EarlySlot) → IsListed s zs → (Far x is ≤ s.temporary) × (Far x is ≤ s.cell))
      → Each (IsCalm x is) (puts_of temporary_of zs)
  puts_calm [] h = tt
  puts_calm (s ∷ zs) h =
      let high = h s (inl refl) in (
        (tt, (far_left x is s.temporary high.0, (far_left x is s.cell high.1, tt))),
        puts_calm zs (λ z l. h z (inr l)),
      )

  puts_are : Each (IsCalm x is) (puts_of temporary_of ss)
  puts_are = puts_calm ss (λ s l. slot_high s (listed_contains ss s l))

  -- ---- all of it

  left : Leaves A start ((copies_front ss ++ []) ++ ((cells_front (plan x) (edged x).params ++ []) ++ []))
      (((([] ++ puts_of temporary_of ss) ++ []) ++ (((([] ++ []) ++ stores) ++ []) ++ [])))
  left =
      leaves_joined A start (copies_front ss ++ []) ((cells_front (plan x) (edged x).params ++ []) ++ [])
      (([] ++ puts_of temporary_of ss) ++ []) (((([] ++ []) ++ stores) ++ []) ++ [])
      (leaves_joined A start (copies_front ss) [] ([] ++ puts_of temporary_of ss) []
      (leaves_joined A start (slot_allocas ss) (puts_of temporary_of ss) [] (puts_of temporary_of ss)
      (leaves_none A start (slot_allocas ss) (slots_each (Goes A start) alloca_goes ss))
      (calm_leaves (puts_of temporary_of ss) puts_are)) (refl, refl))
      (leaves_joined A start (cells_front (plan x) (edged x).params ++ []) [] ((([] ++ []) ++ stores) ++ []) []
      (leaves_joined A start (cells_front (plan x) (edged x).params) [] (([] ++ []) ++ stores) []
      (leaves_joined A start all_cells stores ([] ++ []) stores
      (leaves_joined A start (kept_allocas kept) (link_allocas (plan x).first (length kept) (plan x).links) [] []
      (leaves_none A start (kept_allocas kept) (kept_each (Goes A start) alloca_goes kept))
      (leaves_none A start (link_allocas (plan x).first (length kept) (plan x).links)
      (links_each (Goes A start) alloca_goes (plan x).first (length kept) (plan x).links)))
      (calm_leaves stores (params_calm (edged x).params))) (refl, refl)) (refl, refl))

  rest_is : grown (only is_no_alloca) tt (placed_layer x 0).front ≡ entry_stores x
  rest_is =
      ap (grown (only is_no_alloca) tt) (front_is x is 0 ∙ ap (grown A start) moves_are)
      ∙ left.0
      ∙ (λ i. append-nil (puts_of temporary_of ss) i ++ append-nil (append-nil stores i) i)

  front_all : (entry_layer x).front ≡ front_allocas x ++ entry_stores x
  front_all = ap (λ (js : List Instr). front_allocas x ++ js) rest_is

  pub entry_front : HasEntryFront x
  entry_front = record {
    stand = subst (StandAt (framed x) 0 0) front_all
        (made_front (entry_layer x) (edged x) (framed x) 0 (entry_made x) e.there);
    place =
        ap (λ (q : Bool). place_by x (record { block = 0; at = 0 }) q true) e.unreturned
        ∙ first_place (entry_layer x) (instrs_at x 0) ∙ ap length front_all;
  }
