-- Values in cells leave the calls of a coroutine.
use Rattle.std.proofs.Common.{◌≡◌, ℕ, zero, suc, ◌<◌, ◌≤◌, Bool, true, List, [], ◌∷◌, ◌++◌, length, refl, sym, ap, ◌∙◌, subst, arith}
use Rattle.std.specs.Prelude.{Some, None, Option, slice_get}
use Rattle.pass_exits_proof.proofs.cells.crossing.Calls.{front_quiet}
use Rattle.pass_exits_proof.proofs.cells.rules.NewNames.{blocks_are, fetched, first_kept, first_kept_low, first_phi, first_phi_low, first_use, first_use_low, front, table}
use Rattle.pass_exits_proof.proofs.cells.rules.Planned.{IsPlanned, fetch_there, unplaced_fetch}
use Rattle.pass_exits_proof.proofs.cells.rules.Single.{IsSound}
use Rattle.pass_exits_proof.proofs.rule_laws.rules.counted.Types.{is_cell_type}
use Rattle.pass_exits_proof.proofs.cells.rules.Whole.{p, planned, sound, w}
use Rattle.pass_exits_proof.specs.cells.rules.Asked.{AreCellsFor}
use Rattle.pass_exits_proof.specs.cells.rules.Weaving.{cells_weaving}
use Rattle.pass_exits_proof.proofs.ir_laws.facts.Members.{each_there, each_joined}
use Rattle.pass_exits_proof.specs.edges.rules.Phis.{ArePhisEnteredByJumps}
use Rattle.pass_exits_proof.specs.fetch.rules.Fetches.{base_of}
use Rattle.pass_exits_proof.proofs.cells.shape.Begin.{begin_unplaced}
use Rattle.pass_proofs.proofs.frames.shape.Fetched.{fetch_steady}
use Rattle.pass_exits_proof.proofs.fetch.shape.Held.{IsHeld}
use Rattle.pass_exits_proof.proofs.rule_laws.rules.shape.Ordered.{IsSuspendValue, block_no_end, placed_calls, IsNoEnd}
use Rattle.pass_exits_proof.proofs.rule_laws.rules.shape.Results.{suspend_kind, suspend_low}
use Rattle.pass_exits_proof.proofs.copies.shape.Returned.{returned_listed}
use Rattle.pass_exits_proof.proofs.edges.calls.Spared.{AreInstrsOther, AreOther}
use Rattle.pass_exits_proof.proofs.rule_laws.rules.shape.Stands.{StandsAt, begin_stands}
use Rattle.pass_exits_proof.proofs.edges.calls.Steadily.{AreSteady, entry_no_end, first_clear, keeps_calls, quiet_there, steady_both, still_ordered}
use Rattle.pass_exits_proof.proofs.cells.shape.Unneeded.{unplaced}
use Rattle.pass_exits_proof.proofs.cells.shape.Written.{AreReturnsClear, all_plain, entry_ends, entry_other, entry_steady, params_other}
use Rattle.pass_exits_proof.specs.rule_laws.frames.shape.Quiet.{AreReturnsQuiet}
use Rattle.pass_exits_proof.specs.ir_parts.Contents.{instr_operands}
use Rattle.pass_exits_proof.specs.rule_laws.rules.function_rules.Kept.{KeepsFunctionRules}
use Rattle.pass_exits_proof.specs.pass_intrinsics.Shapes.{suspends_of}
use Rattle.ir_model.specs.Ty.{Ty, int, ptr, token}
use Rattle.ir_model.specs.declared.instr.Instr.{Instr}
use Rattle.ir_model.specs.declared.module.Block.{Block}
use Rattle.ir_model.specs.declared.module.Function.{Function}
use Rattle.ir_model.specs.declared.module.Module.{Module}
use Rattle.ir_model.specs.declared.operand.Intrinsic.{Intrinsic}
use Rattle.ir_model.specs.declared.operand.Operand.{Operand}
use Rattle.pass_exits_proof.specs.run_laws.changed.Changed.{Each}
use Rattle.pass_exits_proof.specs.frame_crossing.Crossing.{AreCrossing}
use Rattle.pass_exits_proof.specs.pass_fetch.Fetching.{fetch_of}
use Rattle.pass_exits_proof.specs.pass_fetch.declared.fetch.Fetch.{Fetch}
use Rattle.pass_exits_proof.specs.pass_cells.Cells.{fetch_by, fetch_for, with_cells}
use Rattle.pass_exits_proof.specs.pass_cells.Kept.{entry}
use Rattle.pass_exits_proof.specs.pass_cells.Written.{distance_alloca, distance_allocas, entry_blocks, kept_allocas, link_allocas, stored_params}
use Rattle.pass_exits_proof.specs.pass_cells.declared.plan.KeptValue.{KeptValue}
use Rattle.pass_exits_proof.specs.pass_cells.declared.plan.Plan.{Plan}
use Rattle.pass_exits_proof.specs.rule_values.Fits.{fits_kind}
use Rattle.pass_exits_proof.specs.rule_values.Kinds.{kind_of, value_kind}
use Rattle.pass_exits_proof.specs.rule_values.declared.kinds.Kind.{Kind}
use Rattle.pass_exits_proof.specs.rule_laws.rules.woven_rules.Weaving.{Weaving}
use Rattle.pass_exits_proof.specs.rule_laws.rules.woven_shape.Calls.{ShapingCall, calls_of_block}
use Rattle.pass_exits_proof.specs.rule_laws.frames.woven_shape.Shaped.{IsShaped, KeepsCalls}

cell_no_token : (ty : Ty) → is_cell_type ty ≡ true → fits_kind (Some (kind_of ty)) token ≡ true → ⊥
cell_no_token (int n) e h = absurd (cc)
cell_no_token ptr e h = absurd (cc)
cell_no_token _ e h = absurd (cc)

-- allocas have no operands
distance_other : (v c : ℕ) (t : Ty) (o : Option ℕ) → AreInstrsOther v (distance_alloca c t o)
distance_other v c t None = tt
distance_other v c t (Some s) = (tt, tt)

kept_other : (v : ℕ) (xs : List KeptValue) → AreInstrsOther v (kept_allocas xs)
kept_other v [] = tt
kept_other v (x ∷ xs) = (tt, (tt, each_joined (λ (i : Instr). AreOther v (instr_operands i)) (distance_allocas x) (kept_allocas xs) (distance_other v x.field_cell x.field_ty x.slot) (kept_other v xs)))

links_other : (v first count links : ℕ) → AreInstrsOther v (link_allocas first count links)
links_other v first count zero = tt
links_other v first count (suc i) = each_joined (λ (j : Instr). AreOther v (instr_operands j)) (link_allocas first count i) (_ ∷ []) (links_other v first count i) (tt, tt)

module _ (m : Module) (k : ℕ) (f : Function) (crossing : List (ℕ × ℕ)) (local : List Bool) (begin : ℕ) (rules : KeepsFunctionRules m k f) (asked : AreCellsFor k f crossing local) (crossed : AreCrossing f crossing) (coroutine : f.coroutine ≡ true) (shape : IsShaped k f begin) (jumps : ArePhisEnteredByJumps f) (quiet : AreReturnsQuiet f) where
  abbrev V : ℕ → Type 0
  V = IsSuspendValue f

  abbrev P : Plan
  P = p m k f rules crossing local asked

  abbrev T : List (Option Fetch)
  T = table m P f

  abbrev W : Weaving
  W = w m k f rules crossing local asked

  abbrev Now : List Block
  Now = fetched m P f

  none_placed : (v : ℕ) → V v → entry P.places v ≡ None
  none_placed v x = unplaced k f coroutine shape.switches v x crossing crossed

  module _ (b : Block) (bs : List Block) (blocks : f.blocks ≡ b ∷ bs) where
    ok : IsSound W f
    ok = sound m k f rules crossing local asked b bs blocks

    plans : IsPlanned W f P
    plans = planned m k f rules crossing local asked b bs blocks

    token_free : (v : ℕ) → fits_kind (value_kind f v) token ≡ true → fetch_of T (Operand.Local v) ≡ None
    token_free v e = on (entry P.places v) refl
      where
        on : (o : Option ℕ) → entry P.places v ≡ o → fetch_of T (Operand.Local v) ≡ None
        on None d = unplaced_fetch P v d
        on (Some at) d =
            let x = plans.places v at d in
            absurd (cell_no_token x.value.ty (plans.kept at x.value x.there).ty (ap (λ (kind : Option Kind). fits_kind kind token) (sym x.kind) ∙ e))

    base_other : (v u : ℕ) (y : Fetch) → V v → fetch_of T (Operand.Local u) ≡ Some y → base_of y ≡ v → ⊥
    base_other v u y x e same = on (entry P.places u) refl (sym (fetch_there P.kept P.places u) ∙ e)
      where
        on : (o : Option ℕ) → entry P.places u ≡ o → fetch_for P.kept o ≡ Some y → ⊥
        on None d h = absurd (cc)
        on (Some at) d h =
            let z = plans.places u at d in
            let load : Fetch.Load z.value.ty z.value.cell ≡ y = (let both : Some (Fetch.Load z.value.ty z.value.cell) ≡ Some y = sym (ap fetch_by z.there) ∙ h in cc) in
            let cell : z.value.cell ≡ v = ap base_of load ∙ same in
            let low : W.first ≤ z.value.cell = ok.low z.value.cell (plans.kept at z.value z.there).cell in
            let old : v < length f.names = suspend_low m k f rules v x in
            omega (arith, cell, low, old)

    held : IsHeld f begin T
    held = record {
      tokens = token_free;
      begin_free = unplaced_fetch P begin (begin_unplaced m k f rules begin shape.named crossing asked.values (length f.names));
      results = λ v x. unplaced_fetch P v (none_placed v x);
      bases = base_other;
    }

    no_slot : (v : ℕ) → V v → (j : ℕ) (x : KeptValue) (s : ℕ) → slice_get P.kept j ≡ Some x → x.slot ≡ Some s → s ≡ v → ⊥
    no_slot v h j x s e d same =
        let ptr_kind : value_kind f s ≡ Some Kind.Ptr = ((plans.kept j x e).slot s d).kind in
        let both : Some Kind.Ptr ≡ Some (Kind.Int 8) = sym ptr_kind ∙ ap (value_kind f) same ∙ suspend_kind m k f rules v h in
        absurd (cc)

    front_other : (v : ℕ) → V v → AreInstrsOther v (front m P f)
    front_other v x =
        each_joined (λ (i : Instr). AreOther v (instr_operands i)) (kept_allocas P.kept ++ link_allocas P.first (length P.kept) P.links) (stored_params P f.params)
        (each_joined (λ (i : Instr). AreOther v (instr_operands i)) (kept_allocas P.kept) (link_allocas P.first (length P.kept) P.links) (kept_other v P.kept) (links_other v P.first (length P.kept) P.links))
        (params_other m P W f ok plans v (suspend_low m k f rules v x) (none_placed v x) (no_slot v x) f.params)

    first_steady : AreSteady V f.blocks Now
    first_steady =
        fetch_steady m k f rules coroutine shape.calls shape.switches jumps begin T shape.named held (suspend_low m k f rules) (first_phi m P f) (first_phi m P f) (first_use m P f)
        (first_phi_low m k f rules crossing local asked) (first_use_low m k f rules crossing local asked)

    returns_clear : (j : ℕ) (c : Block) → slice_get Now j ≡ Some c → AreReturnsClear m P V none_placed c
    returns_clear j c got x e =
        let listed = returned_listed (length f.names) (suspends_of f) c.label x e in
        let none : calls_of_block c ≡ [] = quiet_there f.blocks Now first_steady.labels first_steady.calls c.label (λ q d. quiet c.label listed q d) j c got refl in
        block_no_end c (subst (λ (xs : List ShapingCall). Each IsNoEnd xs) (sym none) tt)

    second_steady : AreSteady V Now (entry_blocks m P (front m P f) (first_kept m P f) Now)
    second_steady =
        entry_steady m P V none_placed (front m P f) (first_kept m P f) Now
        (all_plain (front m P f) (front_quiet P f.params))
        (first_clear f.blocks Now first_steady.calls (entry_no_end k f begin coroutine shape.calls shape.switches shape.begun))
        (each_there _ Now returns_clear)
        (still_ordered V f.blocks Now first_steady.calls (placed_calls k f coroutine shape.calls shape.switches))
        (λ v x. entry_other m P W f ok plans v (suspend_low m k f rules v x) (none_placed v x) (no_slot v x) (front m P f) (first_kept m P f) Now (front_other v x) (first_kept_low m k f rules crossing local asked))
        (λ v. entry_ends m P v (front m P f) (first_kept m P f) Now)

    both_steady : AreSteady V f.blocks (with_cells m f crossing local).blocks
    both_steady =
        subst (AreSteady V f.blocks) (sym (blocks_are m P f))
        (steady_both V f.blocks Now (entry_blocks m P (front m P f) (first_kept m P f) Now) first_steady second_steady)

  by_blocks : (bs : List Block) → f.blocks ≡ bs → AreSteady V f.blocks (with_cells m f crossing local).blocks
  by_blocks [] e = absurd (no_begin (begin_stands f begin shape.named))
    where
      no_begin : StandsAt f Intrinsic.CoroBegin begin → ⊥
      no_begin x = let none : None ≡ Some x.block = ap (λ (bs : List Block). slice_get bs x.position) (sym e) ∙ x.got in absurd (cc)
  by_blocks (b ∷ bs) e = both_steady b bs e

  pub cells_steady : AreSteady V f.blocks (with_cells m f crossing local).blocks
  cells_steady = by_blocks f.blocks refl

  pub cells_keep : KeepsCalls (cells_weaving m f crossing local) f (with_cells m f crossing local)
  cells_keep = keeps_calls (cells_weaving m f crossing local) k f (with_cells m f crossing local) coroutine shape.switches cells_steady (λ v e. refl)
