-- Passes that build frames put no markers in.
use Rattle.std.proofs.Common.{◌≡◌, ℕ, ◌+◌, Bool, true, List, ◌∷◌, length, refl, sym, ◌∙◌, subst, ◌&&◌, ◌||◌, ◌++◌, [], ap, false}
use Rattle.compiler.specs.ir_model.declared.operand.Operand.{Operand}
use Rattle.std.specs.Prelude.{None, Option, Some, codes, filter, if◌then◌else◌, not}
use Rattle.compiler.proofs.pass_proofs.addresses.rules.Placed.{fetched, slots_woven}
use Rattle.compiler.proofs.pass_proofs.addresses.rules.Unmarked.{left_woven, markers_woven, stays_all}
use Rattle.compiler.specs.pass_proofs.addresses.rules.Addresses.{AddressesFit, left_over, lies_in_frame, turning_weaving}
use Rattle.compiler.specs.pass_proofs.cells.rules.Asked.{AreCellsFor}
use Rattle.compiler.specs.pass_proofs.cells.rules.Weaving.{cells_weaving}
use Rattle.compiler.specs.pass_proofs.copies.rules.Copies.{copied_slots, copy_weaving}
use Rattle.compiler.specs.rule_shape.OneOfEach.{wrong_call}
use Rattle.compiler.specs.rule_shape.Switches.{wrong_switch}
use Rattle.compiler.specs.frame_contents.declared.contents.Contents.{Contents}
use Rattle.compiler.specs.pass_proofs.edges.rules.Phis.{ArePhisEnteredByJumps}
use Rattle.compiler.specs.pass_edges.EdgeBlocks.{with_edge_blocks}
use Rattle.compiler.specs.pass_proofs.fetch.rules.Fetches.{fetch_weaving}
use Rattle.compiler.specs.pass_addresses.Placing.{slot_fetches, with_frame_addresses, without_markers}
use Rattle.compiler.specs.frame_layout.declared.layout.Layout.{Layout}
use Rattle.compiler.proofs.pass_proofs.edges.calls.Edges.{edges_shaped}
use Rattle.compiler.proofs.pass_proofs.frames.shape.Fits.{cells_fit}
use Rattle.compiler.proofs.pass_proofs.frames.shape.Framed.{begin_is, coroutine_d, jumps_d, once_d, rules_d, shape_d, woven_c, woven_d}
use Rattle.compiler.specs.pass_proofs.frames.shape.Passes.{PassesFit}
use Rattle.compiler.specs.rule_laws.rules.function_rules.Kept.{KeepsFunctionRules}
use Rattle.compiler.specs.ir_model.Calls.{first_result}
use Rattle.compiler.specs.ir_model.declared.module.Block.{Block}
use Rattle.compiler.specs.ir_model.declared.module.Function.{Function}
use Rattle.compiler.specs.ir_model.declared.module.Module.{Module}
use Rattle.compiler.specs.ir_model.declared.operand.Intrinsic.{Intrinsic}
use Rattle.compiler.specs.frame_classes.declared.class.SlotClass.{SlotClass}
use Rattle.compiler.specs.pass_frames.Framed.{begin_block, begin_of, celled, copied, offsets_of, placed}
use Rattle.compiler.specs.pass_frames.Tables.{class_flags, label_flags, sizes_by_name}
use Rattle.compiler.specs.frame_crossing.Crossing.{AreCrossing}
use Rattle.compiler.specs.pass_fetch.Blocks.{with_fetches}
use Rattle.compiler.specs.pass_fetch.declared.fetch.Fetch.{Fetch}
use Rattle.compiler.specs.rule_windows.Outside.{IsFirstOutside}
use Rattle.compiler.specs.rule_windows.Windows.{IsFirstWindow}
use Rattle.compiler.specs.rule_laws.frames.woven_shape.Shaped.{IsShaped}
use Rattle.compiler.specs.rule_laws.rules.woven_rules.Blocks.{AreWovenBlocks, IsWoven, NoBlock, OneBlock}
use Rattle.compiler.specs.rule_laws.rules.woven_rules.Pairs.{AreIncomingOnce}
use Rattle.compiler.specs.rule_laws.rules.woven_rules.Weaving.{Weaving}
use Rattle.std.specs.List.{list_any}
use Rattle.compiler.specs.ir_model.declared.instr.Instr.{Instr}
use Rattle.compiler.specs.ir_model.declared.operand.Callee.{Callee}
use Rattle.compiler.specs.pass_front.Front.{is_alloca, is_no_alloca, with_allocas_first, with_front_allocas}
use Rattle.compiler.specs.pass_proofs.frames.rules.Buildable.{IsBuildable}
use Rattle.compiler.proofs.pass_proofs.frames.rules.Built.{passes_fit}
use Rattle.compiler.specs.rule_laws.rules.woven_rules.Blocks.{AreWoven, Done, Gone, Kept, Put, Remain, Stays, Unpromised, is_mark, may_stand}
use Rattle.compiler.specs.rule_laws.rules.woven_rules.Parts.{Alloca, Binary, Call, CalleeStays, Cast, Direct, Gep, Icmp, Indirect, InstrStays, Load, Select, Store}
use Rattle.compiler.specs.run_step.Step.{has_markers, is_marker_of}

abbrev Unmarks : ℕ → Function → Function → Type 0
Unmarks v f g = has_markers f v ≡ false → has_markers g v ≡ false

unmarked_both : (v : ℕ) (f g h : Function) → Unmarks v f g → Unmarks v g h → Unmarks v f h
unmarked_both v f g h x y e = y (x e)

-- ---- what is woven in is no marker

or_false : (b c : Bool) → (b || c) ≡ false → (b ≡ false) × (c ≡ false)
or_false true c e = absurd (cc)
or_false false c e = (refl, e)

is_one : (v : ℕ) (j : Instr) → is_marker_of v j ≡ true → is_mark j ≡ true
is_one v (Instr.Call r must_tail ty (Callee.Intrinsic Intrinsic.LifetimeStart) args) e = refl
is_one v (Instr.Call r must_tail ty (Callee.Intrinsic Intrinsic.LifetimeEnd) args) e = refl
is_one v _ e = absurd (cc)

no_put : (v block : ℕ) (j : Instr) → may_stand block j ≡ true → is_marker_of v j ≡ false
no_put v block (Instr.Call r must_tail ty (Callee.Intrinsic Intrinsic.LifetimeStart) args) e =
    absurd (no_copy (not must_tail) e)
  where
    no_copy : (b : Bool) → (b && false) ≡ true → ⊥
    no_copy true h = cc
    no_copy false h = cc
no_put v block (Instr.Call r must_tail ty (Callee.Intrinsic Intrinsic.LifetimeEnd) args) e =
    absurd (no_copy (not must_tail) e)
  where
    no_copy : (b : Bool) → (b && false) ≡ true → ⊥
    no_copy true h = cc
    no_copy false h = cc
no_put v block _ e = refl

same_mark : (R : Operand → Operand → Type 0) (i j : Instr) → InstrStays R i j → is_mark j ≡ true → is_mark i ≡ true
same_mark R _ _ (Call r must_tail t c d args now h k) e = callee c d h e
  where
    callee : (c d : Callee) → CalleeStays R c d → is_mark (Instr.Call r must_tail t d now) ≡ true
        → is_mark (Instr.Call r must_tail t c args) ≡ true
    callee c _ (Direct _ direct) g = g
    callee _ _ (Indirect u n h) g = absurd (cc)
same_mark R _ _ (Alloca r t a) e = absurd (cc)
same_mark R _ _ (Binary r op flags t a b c d h k) e = absurd (cc)
same_mark R _ _ (Icmp r pred t a b c d h k) e = absurd (cc)
same_mark R _ _ (Select r x y a b c d h k z) e = absurd (cc)
same_mark R _ _ (Cast r op nneg a c to h) e = absurd (cc)
same_mark R _ _ (Load r t x y al h) e = absurd (cc)
same_mark R _ _ (Store a c x y al h k) e = absurd (cc)
same_mark R _ _ (Gep r inbounds t x y args now h k) e = absurd (cc)

one_stays : (v : ℕ) (w : Weaving) (f : Function) (made : List ℕ) (i j : Instr) → Stays w f made i j
    → is_marker_of v i ≡ false → is_marker_of v j ≡ false
one_stays v w f made _ _ (Kept i j h k) e = on (is_marker_of v j) refl
  where
    on : (b : Bool) → is_marker_of v j ≡ b → b ≡ false
    on false d = refl
    on true d =
        let same = k (same_mark _ i j h (is_one v j d)) in
        let no : true ≡ false = sym d ∙ ap (is_marker_of v) same.same ∙ e in
        absurd (cc)
one_stays v w f made _ _ (Unpromised r must_tail t a p args h) e = refl

instrs_unmarked : (v : ℕ) (w : Weaving) (m : Module) (f : Function) (block : ℕ) (made : List ℕ) (is js : List Instr)
    → AreWoven w m f block made is js → list_any (is_marker_of v) is ≡ false → list_any (is_marker_of v) js ≡ false
instrs_unmarked v w m f block _ _ _ (Done made) e = refl
instrs_unmarked v w m f block _ _ _ (Put made j is js h rest) e =
    ap (λ (b : Bool). b || list_any (is_marker_of v) js) (no_put v block j h.stands)
    ∙ instrs_unmarked v w m f block _ is js rest e
instrs_unmarked v w m f block _ _ _ (Gone made i is js h rest) e =
    instrs_unmarked v w m f block made is js rest (or_false (is_marker_of v i) (list_any (is_marker_of v) is) e).1
instrs_unmarked v w m f block _ _ _ (Remain made i j is js h rest) e =
    let both = or_false (is_marker_of v i) (list_any (is_marker_of v) is) e in
    ap (λ (b : Bool). b || list_any (is_marker_of v) js) (one_stays v w f made i j h both.0)
    ∙ instrs_unmarked v w m f block _ is js rest both.1

abbrev marked_block : ℕ → Block → Bool
marked_block v b = list_any (is_marker_of v) b.instrs

blocks_unmarked : (v : ℕ) (w : Weaving) (m : Module) (f g : Function) (n : ℕ) (bs cs : List Block)
    → AreWovenBlocks w m f g n bs cs → list_any (marked_block v) bs ≡ false → list_any (marked_block v) cs ≡ false
blocks_unmarked v w m f g n _ _ (NoBlock block) e = refl
blocks_unmarked v w m f g n _ _ (OneBlock block b c bs cs h rest) e =
    let both = or_false (marked_block v b) (list_any (marked_block v) bs) e in
    ap (λ (t : Bool). t || list_any (marked_block v) cs)
    (instrs_unmarked v w m f block _ b.instrs c.instrs h.instrs both.0)
    ∙ blocks_unmarked v w m f g (block + 1) bs cs rest both.1

by_weaving : (v : ℕ) (w : Weaving) (m : Module) (f g : Function) → IsWoven w m f g → Unmarks v f g
by_weaving v w m f g woven e = blocks_unmarked v w m f g 0 f.blocks g.blocks woven.blocks e

-- ---- slots become bytes of the frame

module _ (v : ℕ) (m : Module) (k : ℕ) (f : Function) (begin : ℕ) (offsets : List (Option ℕ)) (marked : List Bool)
    (rules : KeepsFunctionRules m k f) (once : AreIncomingOnce f) (fit : AddressesFit k f begin offsets marked)
    (coroutine : f.coroutine ≡ true) (shape : IsShaped k f begin) (jumps : ArePhisEnteredByJumps f) where
  abbrev Unmarked : Function
  Unmarked = without_markers marked f

  abbrev Nameless : Function
  Nameless = left_over marked f

  abbrev Table : List (Option Fetch)
  Table = slot_fetches begin offsets

  abbrev Refetched : Function
  Refetched = with_fetches Nameless Table (codes "$c.at.")

  abbrev Addressed : Function
  Addressed = with_frame_addresses f begin offsets marked

  addresses_unmarked : Unmarks v f Addressed
  addresses_unmarked =
      unmarked_both v f Refetched Addressed
      (unmarked_both v f Nameless Refetched
      (unmarked_both v f Unmarked Nameless
      (by_weaving v (turning_weaving f stays_all) m f Unmarked (markers_woven m k f marked rules))
      (by_weaving v (turning_weaving Unmarked stays_all) m Unmarked Nameless (left_woven m k f marked rules once)))
      (by_weaving v (fetch_weaving Nameless Table (codes "$c.at.")) m Nameless Refetched
      (fetched m k f begin offsets marked rules once fit)))
      (by_weaving v (turning_weaving Refetched (lies_in_frame offsets)) m Refetched Addressed
      (slots_woven m k f begin offsets marked rules once fit))

-- ---- the passes

module _ (v : ℕ) (m : Module) (k : ℕ) (l : Layout) (f : Function) (c : Contents) (before : List ℕ) (begin : ℕ)
    (rules : KeepsFunctionRules m k f) (coroutine : f.coroutine ≡ true) (calls : wrong_call k f ≡ None)
    (switches : wrong_switch k f ≡ None) (outside : IsFirstOutside k f None) (window : IsFirstWindow k f None)
    (named : first_result Intrinsic.CoroBegin f ≡ Some begin) (crossed : AreCrossing f c.crossing)
    (fit : PassesFit m k l f c before) where
  abbrev Edged : Function
  Edged = with_edge_blocks f

  abbrev Celled : Function
  Celled = celled m f c

  abbrev Copied : Function
  Copied = copied f c Celled before

  abbrev Built : Function
  Built = placed l f c Copied

  abbrev Frame : List Bool
  Frame = class_flags f c.classes SlotClass.Frame

  abbrev Flags : List Bool
  Flags = label_flags Celled (begin_block Celled ∷ before)

  abbrev Sizes : List ℕ
  Sizes = sizes_by_name f c.held

  shape_e : IsShaped k Edged begin
  shape_e = edges_shaped m k f begin rules coroutine calls switches outside window named

  cells : AreCellsFor k Edged c.crossing (class_flags f c.classes SlotClass.Local)
  cells = cells_fit m k f c rules coroutine calls switches crossed fit.widths

  celled_unmarked : Unmarks v Edged Celled
  celled_unmarked =
      by_weaving v (cells_weaving m Edged c.crossing (class_flags f c.classes SlotClass.Local)) m Edged Celled
      (woven_c m k f c begin rules coroutine calls switches crossed shape_e cells)

  copied_unmarked : Unmarks v Celled Copied
  copied_unmarked =
      by_weaving v (copy_weaving Celled Flags (copied_slots Celled Frame Flags Sizes)) m Celled Copied
      (woven_d m k f c begin rules coroutine calls switches crossed shape_e cells before fit.copies)

  placed_unmarked : Unmarks v Copied Built
  unfolding placed
  placed_unmarked =
      addresses_unmarked v m k Copied (begin_of f) (offsets_of l f c (length Copied.names))
      (class_flags f c.classes SlotClass.Ramp)
      (rules_d m k f c begin rules coroutine calls switches crossed shape_e cells before fit.copies)
      (once_d m k f c begin rules coroutine calls switches crossed shape_e cells before fit.copies) fit.addresses
      (coroutine_d m k f c begin rules coroutine calls switches crossed shape_e cells before fit.copies)
      (subst (IsShaped k Copied) (sym (begin_is m k f c begin rules coroutine calls switches crossed shape_e))
      (shape_d m k f c begin rules coroutine calls switches crossed shape_e cells before fit.copies))
      (jumps_d m k f c begin rules coroutine calls switches crossed shape_e cells before fit.copies)

  pub built_unmarked : Unmarks v Edged Built
  built_unmarked =
      unmarked_both v Edged Copied Built (unmarked_both v Edged Celled Copied celled_unmarked copied_unmarked) placed_unmarked

-- ---- the entry's allocas come first

filter_unmarked : (v : ℕ) (t : Instr → Bool) (is : List Instr) → list_any (is_marker_of v) is ≡ false
    → list_any (is_marker_of v) (filter t is) ≡ false
filter_unmarked v t [] e = refl
filter_unmarked v t (i ∷ is) e =
    let both = or_false (is_marker_of v i) (list_any (is_marker_of v) is) e in
    on (t i) both.0 (filter_unmarked v t is both.1)
  where
    on : (b : Bool) → is_marker_of v i ≡ false → list_any (is_marker_of v) (filter t is) ≡ false
        → list_any (is_marker_of v) (if b then i ∷ filter t is else filter t is) ≡ false
    on true first rest = ap (λ (c : Bool). c || list_any (is_marker_of v) (filter t is)) first ∙ rest
    on false first rest = rest

joined_unmarked : (v : ℕ) (is js : List Instr) → list_any (is_marker_of v) is ≡ false
    → list_any (is_marker_of v) js ≡ false → list_any (is_marker_of v) (is ++ js) ≡ false
joined_unmarked v [] js e d = d
joined_unmarked v (i ∷ is) js e d =
    let both = or_false (is_marker_of v i) (list_any (is_marker_of v) is) e in
    ap (λ (c : Bool). c || list_any (is_marker_of v) (is ++ js)) both.0 ∙ joined_unmarked v is js both.1 d

front_unmarked : (v : ℕ) (f : Function) → Unmarks v f (with_front_allocas f)
front_unmarked v f e = on f.blocks e
  where
    on : (bs : List Block) → list_any (marked_block v) bs ≡ false
        → list_any (marked_block v) (with_allocas_first bs) ≡ false
    on [] d = refl
    on (b ∷ bs) d =
        let both = or_false (marked_block v b) (list_any (marked_block v) bs) d in
        ap (λ (t : Bool). t || list_any (marked_block v) bs)
        (joined_unmarked v (filter is_alloca b.instrs) (filter is_no_alloca b.instrs)
        (filter_unmarked v is_alloca b.instrs both.0) (filter_unmarked v is_no_alloca b.instrs both.0))
        ∙ both.1

-- the framed form has no marker of a name that had none
pub form_unmarked : (v : ℕ) (m : Module) (k : ℕ) (l : Layout) (f : Function) (c : Contents) (before : List ℕ) (begin : ℕ)
    → IsBuildable m k l f c before begin
    → Unmarks v (with_edge_blocks f) (with_front_allocas (placed l f c (copied f c (celled m f c) before)))
form_unmarked v m k l f c before begin b e =
    front_unmarked v (placed l f c (copied f c (celled m f c) before))
    (built_unmarked v m k l f c before begin b.rules b.coroutine b.calls b.switches b.outside b.window b.named
    b.contents.crossing_are (passes_fit m k l f c before begin b) e)
