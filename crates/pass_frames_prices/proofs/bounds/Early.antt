-- Slots that are used before begin are allocas of the entry, each another one.
use Rattle.std.proofs.Common.{◌≡◌, ℕ, zero, suc, ◌+◌, ◌<◌, ◌≤◌, Bool, true, false, List, [], ◌∷◌, ◌++◌, length, refl, ap, arith}
use Rattle.std.specs.Prelude.{None, Option, Some, if◌then◌else◌, replicate, slice_get, unwrap_or}
use Rattle.pass_frames_proof.specs.frame_classes.declared.class.SlotClass.{SlotClass}
use Rattle.pass_frames_proof.specs.ir_model.Ty.{Ty, int}
use Rattle.pass_frames_proof.specs.ir_model.declared.instr.Instr.{Instr}
use Rattle.pass_frames_proof.specs.ir_model.declared.module.Block.{Block}
use Rattle.pass_frames_proof.specs.ir_model.declared.module.Module.{Module}
use Rattle.pass_frames_proof.specs.pass_cells.Cells.{fetched_function, fetches_of as loads_of}
use Rattle.pass_frames_proof.specs.pass_cells.Links.{link_name}
use Rattle.pass_frames_proof.specs.pass_cells.Moves.{after_again, again_values, cell_alloca}
use Rattle.pass_frames_proof.specs.pass_cells.Written.{again_row, distance_alloca, distance_allocas, entry_blocks, entry_front, kept_allocas, link_allocas, stored_params, stored_phis, written_instrs}
use Rattle.pass_frames_proof.specs.pass_cells.declared.plan.KeptValue.{KeptValue}
use Rattle.pass_frames_proof.specs.pass_cells.declared.plan.Plan.{Plan}
use Rattle.pass_frames_proof.specs.pass_copies.Slots.{early_slot, entry_instrs, slots_from}
use Rattle.pass_frames_proof.specs.pass_copies.Uses.{flag_at, used_before}
use Rattle.pass_frames_proof.specs.pass_fetch.Blocks.{end_at, fetched_blocks}
use Rattle.pass_frames_proof.specs.pass_fetch.Fetching.{fetch_into, fetches_of_all}
use Rattle.pass_frames_proof.specs.pass_fetch.Instrs.{fetched_instrs, next_after_instrs, term_operands}
use Rattle.pass_frames_proof.specs.pass_fetch.declared.fetch.Fetch.{Fetch}
use Rattle.pass_frames_proof.specs.pass_frames.Tables.{class_flags, sizes_by_name}
use Rattle.pass_frames_prices.proofs.bounds.Allocas.{again_none, fetched_many, fetches_none, many, many_append, none, one, params_none, phis_none, written_many}
use Rattle.pass_frames_proof.proofs.code.Left.{blocks_by}
use Rattle.pass_frames_proof.proofs.code.Names.{First, has_cells, used_low}
use Rattle.pass_frames_proof.specs.Framings.{IsFraming}
use Rattle.pass_frames_prices.specs.Numbers.{allocas_of_instrs, one_alloca}
use Rattle.pass_frames_proof.specs.Passes.{no_block, phi_ends}
use Rattle.pass_frames_proof.specs.Places.{Framing, before_labels, copies, edged, fetched, instrs_at, named, plan, written}
use Rattle.pass_frames_proof.specs.pass_front.Front.{is_no_alloca}
use Rattle.pass_frames_proof.proofs.pass_proofs.cells.rules.Fronts.{HasCells}
use Rattle.pass_frames_proof.proofs.pass_proofs.fetch.shape.Fetching.{no_rows}
use Rattle.pass_frames_proof.specs.run_laws.changed.Changed.{Each}

into_no_alloca : (n : ℕ) (y : Fetch) → is_no_alloca (fetch_into n y) ≡ true
into_no_alloca n (Fetch.Load ty cell) = refl
into_no_alloca n (Fetch.Address base distance) = refl

-- flagged names count
abbrev pub weigh : List Bool → ℕ → ℕ
weigh used r = if flag_at used r then 1 else 0

module _ (used : List Bool) where
  abbrev W : ℕ → ℕ
  W = weigh used

  one_few : (i : Instr) → one W i ≤ one_alloca i
  one_few (Instr.Alloca r ty align) = on (flag_at used r)
    where
      on : (b : Bool) → (if b then 1 else 0) ≤ 1
      on true = omega arith
      on false = omega arith
  one_few i = omega arith

  pub many_few : (is : List Instr) → many W is ≤ allocas_of_instrs is
  many_few [] = omega arith
  many_few (i ∷ is) = let a = one_few i in let b = many_few is in omega (arith, a, b)

  -- there is a slot for each
  pub slots_long : (sizes : List ℕ) (n : ℕ) (is : List Instr) → length (slots_from used sizes n is) ≤ many W is
  slots_long sizes n [] = omega arith
  slots_long sizes n (Instr.Alloca r ty align ∷ is) =
      on (flag_at used r) (slots_long sizes (n + 2) is) (slots_long sizes n is)
    where
      on : (b : Bool) → length (slots_from used sizes (n + 2) is) ≤ many W is
          → length (slots_from used sizes n is) ≤ many W is
          → length ((if b then early_slot sizes n r ty align ∷ [] else [])
          ++ slots_from used sizes (if b then n + 2 else n) is)
          ≤ (if b then 1 else 0) + many W is
      on true a b = omega (arith, a)
      on false a b = omega (arith, b)
  slots_long sizes n (_ ∷ is) = let a = slots_long sizes n is in omega (arith, a)

  -- ---- allocas of new names, of which none is flagged

  module _ (first : ℕ) (high : (v : ℕ) → first ≤ v → flag_at used v ≡ false) where
    cell_none : (v : ℕ) (ty : Ty) → first ≤ v → one W (cell_alloca v ty) ≡ 0
    cell_none v ty le = ap (λ (b : Bool). if b then 1 else 0) (high v le)

    kept_none : (kept : List KeptValue) → Each (HasCells first) kept → many W (kept_allocas kept) ≡ 0
    kept_none [] h = refl
    kept_none (k ∷ kept) h =
        let a = cell_none k.cell k.ty h.0.cell in
        let b = cell_none k.field k.field_ty h.0.field in
        let c = on k.slot in
        let d = kept_none kept h.1 in
        let e = many_append W (distance_allocas k) (kept_allocas kept) in
        omega (arith, a, b, c, d, e)
      where
        on : (o : Option ℕ) → many W (distance_alloca k.field_cell k.field_ty o) ≡ 0
        on None = refl
        on (Some s) = let a = cell_none k.field_cell k.field_ty h.0.field_cell in omega (arith, a)

    links_none : (count n : ℕ) → many W (link_allocas first count n) ≡ 0
    links_none count zero = refl
    links_none count (suc n) =
        let a = links_none count n in
        let b = cell_none (link_name first count n) (int 64) (omega arith) in
        let e = many_append W (link_allocas first count n) (cell_alloca (link_name first count n) (int 64) ∷ []) in
        omega (arith, a, b, e)

  -- ---- the entry over the passes

  entry_fetched : (t : List (Option Fetch)) (ends : List (List Instr)) (m n : ℕ) (bs : List Block)
      → ((label : ℕ) → many W (end_at ends label) ≡ 0)
      → many W (entry_instrs (fetched_blocks t ends m n bs)) ≡ many W (entry_instrs bs)
  entry_fetched t ends m n [] h = refl
  entry_fetched t ends m n (b ∷ bs) h =
      let last : ℕ = next_after_instrs t n b.instrs in
      let a = fetched_many W t n b.instrs in
      let c = h b.label in
      let d = fetches_none W t last (term_operands b.term) in
      let e = many_append W (fetched_instrs t n b.instrs ++ end_at ends b.label)
      (fetches_of_all t last (term_operands b.term)) in
      let f = many_append W (fetched_instrs t n b.instrs) (end_at ends b.label) in
      omega (arith, a, c, d, e, f)

  entry_written : (m : Module) (p : Plan) (front : List Instr) (n : ℕ) (bs : List Block) → many W front ≡ 0
      → many W (entry_instrs (entry_blocks m p front n bs)) ≡ many W (entry_instrs bs)
  entry_written m p front n [] h = refl
  entry_written m p front n (b ∷ bs) h =
      let again : List Instr = again_values p.kept n (again_row p b.label) in
      let rest : List Instr = written_instrs m p (after_again n (again_row p b.label)) b.instrs in
      let a = again_none W p.kept n (again_row p b.label) in
      let c = phis_none W p b.phis in
      let d = written_many W m p (after_again n (again_row p b.label)) b.instrs in
      let e = many_append W ((front ++ again) ++ stored_phis p b.phis) rest in
      let f = many_append W (front ++ again) (stored_phis p b.phis) in
      let g = many_append W front again in
      omega (arith, h, a, c, d, e, f, g)

module _ (x : Framing) (is : IsFraming x) where
  abbrev used : List Bool
  used = used_before (written x) (class_flags x.function x.contents.classes SlotClass.Frame) (before_labels x)

  not_high : (v : ℕ) → First x is ≤ v → flag_at used v ≡ false
  not_high v le = on (flag_at used v) refl
    where
      on : (b : Bool) → flag_at used v ≡ b → b ≡ false
      on false e = refl
      on true e = let lt : v < First x is = used_low x is v e in absurd (omega (arith, lt, le))

  cells_each : (ks : List KeptValue) (k : ℕ) → ((at : ℕ) (z : KeptValue) → slice_get ks at ≡ Some z
      → HasCells (First x is) z)
      → Each (HasCells (First x is)) ks
  cells_each [] k h = tt
  cells_each (z ∷ ks) k h = (h 0 z refl, cells_each ks k (λ at y e. h (suc at) y e))

  front_none : many (weigh used) (entry_front (plan x) (fetched x).params) ≡ 0
  front_none =
      let kept : List Instr = kept_allocas (plan x).kept in
      let links : List Instr = link_allocas (plan x).first (length (plan x).kept) (plan x).links in
      let params : List Instr = stored_params (plan x) (fetched x).params in
      let a = kept_none used (First x is) not_high (plan x).kept (cells_each (plan x).kept 0 (has_cells x is)) in
      let b = links_none used (First x is) not_high (length (plan x).kept) (plan x).links in
      let c = params_none (weigh used) (plan x) (fetched x).params in
      let e = many_append (weigh used) (kept ++ links) params in
      let f = many_append (weigh used) kept links in
      omega (arith, a, b, c, e, f)

  loaded_many : many (weigh used) (entry_instrs (fetched x).blocks) ≡ many (weigh used) (entry_instrs (edged x).blocks)
  unfolding fetched_function
  loaded_many =
      let t : List (Option Fetch) = loads_of (plan x) in
      entry_fetched used t (phi_ends (named x) t) _ _ (edged x).blocks
      (λ label. none (weigh used) (end_at (phi_ends (named x) t) label)
      (blocks_by t (λ (j : Instr). is_no_alloca j ≡ true) 0 (λ n y f low e. into_no_alloca n f)
      (length (named x).names)
      (replicate (length (named x).names) []) (named x).blocks (omega arith)
      (no_rows t (λ (j : Instr). is_no_alloca j ≡ true) (length (named x).names)) label))

  pub early_few : length (copies x).slots ≤ allocas_of_instrs (instrs_at x 0)
  early_few =
      let a = slots_long used (sizes_by_name x.function x.contents.held) (length (written x).names)
      (entry_instrs (written x).blocks) in
      let b = entry_written used x.code (plan x) (entry_front (plan x) (fetched x).params) (length (fetched x).names)
      (fetched x).blocks front_none in
      let c = loaded_many in
      let d = many_few used (entry_instrs (edged x).blocks) in
      let e = entry_is (edged x).blocks in
      omega (arith, a, b, c, d, e)
    where
      entry_is : (bs : List Block) → allocas_of_instrs (entry_instrs bs)
          ≡ allocas_of_instrs (unwrap_or (slice_get bs 0) no_block).instrs
      entry_is [] = refl
      entry_is (b ∷ bs) = refl
