-- What stands behind a definition puts its value into its cell.
use Rattle.std.proofs.Common.{◌≡◌, ⊎_elim, ℕ, ◌+◌, ◌*◌, ◌<◌, ◌≤◌, Bool, List, [], ◌∷◌, length, refl, sym, ap, ◌∙◌, subst, arith}
use Rattle.std.specs.List.{Contains}
use Rattle.std.specs.Prelude.{None, Option, Some, slice_get, ◌≢◌}
use Rattle.pass_proofs.proofs.ir_laws.facts.Lists.{get_within}
use Rattle.pass_proofs.proofs.ir_laws.facts.Members.{each_turns}
use Rattle.pass_proofs.proofs.ir_laws.facts.Truth.{is_number}
use Rattle.pass_proofs.specs.ir_model.Ty.{Ty, int}
use Rattle.pass_proofs.specs.pass_cells.Kept.{entry}
use Rattle.pass_proofs.specs.pass_cells.Moves.{store_to}
use Rattle.pass_proofs.specs.pass_cells.Written.{stored as stored_by, stored_at, stored_one}
use Rattle.pass_proofs.specs.pass_cells.declared.plan.KeptValue.{KeptValue}
use Rattle.pass_frames_code.proofs.code.Left.{Far, far_named}
use Rattle.pass_frames_code.proofs.code.Names.{Count, First, Kept, count_is, has_cells, keeping, local, numbered}
use Rattle.pass_frames_code.proofs.lines.Cells.{cell_has, cell_stores, kept_type, others_kept}
use Rattle.pass_frames_code.proofs.lines.Filled.{over_none}
use Rattle.pass_proofs.proofs.cells.rules.Fronts.{IsNumbered}
use Rattle.pass_proofs.proofs.cells.rules.Links.{distance_there, marks_have}
use Rattle.pass_proofs.proofs.frames.begin_order.Fields.{distance_far}
use Rattle.pass_proofs.specs.pass_cells.Links.{bases_of, links_from, marks_of, slots_of}
use Rattle.pass_frames_code.specs.Framings.{IsFraming}
use Rattle.pass_proofs.specs.ir_model.declared.instr.Instr.{Instr}
use Rattle.pass_frames_code.specs.Lines.{DifferAt, HasOwnBlocks, IsCellOf, IsNoRoot, IsStorable, LeavesCellsBut, StoresCell, at_work}
use Rattle.pass_frames_code.specs.Places.{Framing, edged, named, plan}
use Rattle.pass_frames_code.specs.Related.{Anything, AreCellsRight, IsCell, IsDistanceOf, IsKeptValue, root_of}
use Rattle.pass_proofs.specs.run_laws.access.Accessed.{Span}
use Rattle.pass_proofs.specs.run_laws.memory.Pointers.{Home, IsValue, moved_pointer}
use Rattle.pass_proofs.specs.run_laws.memory.Standing.{AreByteRights}
use Rattle.pass_proofs.specs.run_memory.declared.pointer.Pointer.{Pointer}
use Rattle.pass_proofs.specs.run_memory.declared.pointer.Value.{Value}
use Rattle.pass_proofs.specs.run_source.declared.state.Activation.{Activation}
use Rattle.pass_proofs.specs.run_step.Step.{Context, Work}
use Rattle.pass_proofs.specs.run_step.Values.{Env, access_of, stored, value_in}

-- the type of a pointer that may be stored is ptr, so any pointer may be
pointer_stays : (ty : Ty) (p : Pointer) → stored (access_of ty) (Value.Ptr p) ≡ Value.Ptr p → (q : Pointer)
    → stored (access_of ty) (Value.Ptr q) ≡ Value.Ptr q
pointer_stays (int w) p e q = absurd (cc)
pointer_stays _ p e q = refl

-- what stands for a value that may be stored is what is stored of it
pub storable_stands : (homes : List Home) (ty : Ty) (v u : Value) → IsStorable ty v → IsValue homes v u
    → IsValue homes v (stored (access_of ty) u)
storable_stands homes ty Value.Poison u e h = tt
storable_stands homes ty (Value.Int n) u e h = ap (stored (access_of ty)) h ∙ e
storable_stands homes ty (Value.Ptr p) u e h =
    (h.0, ap (stored (access_of ty)) h.1 ∙ pointer_stays ty p e (moved_pointer homes p))

module _ (x : Framing) (is : IsFraming x) where
  -- ---- names of cells are different

  pub same_kept : (v : ℕ) (k j : KeptValue) → IsKeptValue x v k → IsKeptValue x v j → k ≡ j
  same_kept v k j a b =
      let told : Some a.number ≡ Some b.number = sym a.told ∙ b.told in
      let same : a.number ≡ b.number = cc in
      let both : Some k ≡ Some j = sym a.there ∙ ap (λ (n : ℕ). slice_get (plan x).kept n) same ∙ b.there in
      cc

  pub kept_once : (u v : ℕ) (k j : KeptValue) → IsKeptValue x u k → IsKeptValue x v j → k.cell ≡ j.cell → u ≡ v
  kept_once u v k j a b e =
      let one : IsNumbered (First x is) (Count x is) a.number k = numbered x is a.number k a.there in
      let two : IsNumbered (First x is) (Count x is) b.number j = numbered x is b.number j b.there in
      let p : k.cell ≡ First x is + a.number = one.cell in
      let q : j.cell ≡ First x is + b.number = two.cell in
      let same : a.number ≡ b.number = omega (arith, p, q, e) in
      let here : slice_get (Kept x is).values a.number ≡ Some u = (keeping x is).there u a.number a.told in
      let there : slice_get (Kept x is).values b.number ≡ Some v = (keeping x is).there v b.number b.told in
      let both : Some u ≡ Some v = sym here ∙ ap (λ (n : ℕ). slice_get (Kept x is).values n) same ∙ there in
      cc

  pub distance_apart : (u cell v : ℕ) (k : KeptValue) → entry (plan x).cells u ≡ Some cell → IsKeptValue x v k
      → cell ≢ k.cell
  distance_apart u cell v k e kept same =
      let F = edged x in
      let marks : List Bool = marks_of (bases_of F) (slots_of (local x is) (bases_of F)) (Kept x is).values in
      let far : First x is + 2 * Count x is ≤ cell =
      distance_far (First x is) (Count x is) (links_from (Kept x is).places 0 0 marks) (entry (Kept x
      is).places u) cell
      (distance_there (First x is) (Count x is) (Kept x is).places marks u cell e).cell in
      let n : IsNumbered (First x is) (Count x is) kept.number k = numbered x is kept.number k kept.there in
      let lt : kept.number < length (plan x).kept = get_within (plan x).kept kept.number k kept.there in
      let long : length (plan x).kept ≡ Count x is = count_is x is in
      let p : k.cell ≡ First x is + kept.number = n.cell in
      omega (arith, far, lt, long, p, same)

  -- a name whose distance has a cell has a local slot
  has_root : (v cell : ℕ) → entry (plan x).cells v ≡ Some cell → (slot : ℕ) × (root_of x v ≡ Some slot)
  has_root v cell e =
      let F = edged x in
      let slots : List (Option ℕ) = slots_of (local x is) (bases_of F) in
      let marks : List Bool = marks_of (bases_of F) slots (Kept x is).values in
      let told = distance_there (First x is) (Count x is) (Kept x is).places marks v cell e in
      let slot = marks_have (bases_of F) slots (Kept x is).values v told.marked in
      (slot.0, slot.1)

  -- the cell of a kept value is one
  pub kept_is_cell : (v : ℕ) (k : KeptValue) → IsKeptValue x v k → IsCellOf x k.cell
  kept_is_cell v k kept =
      let n : IsNumbered (First x is) (Count x is) kept.number k = numbered x is kept.number k kept.there in
      let lt : kept.number < length (plan x).kept = get_within (plan x).kept kept.number k kept.there in
      let long : length (plan x).kept ≡ Count x is = count_is x is in
      let p : k.cell ≡ First x is + kept.number = n.cell in
      let far : Far x is ≤ length (named x).names = far_named x is in
      (omega (arith, p), omega (arith, p, lt, long, far))

  -- ---- one value

  module _ (homes : List Home) (c : Context) (law : AreByteRights c.rights) (old env : Env) (a : Activation) (w : Work)
      (v n : ℕ) (own : HasOwnBlocks a) (no_root : IsNoRoot x v) (differ : DifferAt v old env)
      (stands : IsValue homes (value_in env v) (value_in w.values v))
      (storable : (k : KeptValue) → IsKeptValue x v k → IsStorable k.ty (value_in env v))
      (right : AreCellsRight x homes c.rights w.world.memory old (at_work a w)) where
    abbrev Leaves : List Instr → Type 0
    Leaves line = LeavesCellsBut x homes c w a env v n line

    -- the cell of its distance is there
    old_there : (cell : ℕ) → entry (plan x).cells v ≡ Some cell
        → IsCell c.rights w.world.memory (at_work a w) cell (int 64) Anything
    old_there cell e =
        let root = has_root v cell e in
        cell_has c.rights w.world.memory (at_work a w) cell (int 64)
        (IsDistanceOf (value_in old root.0) (value_in old v)) Anything (λ u h. tt)
        (right.distances v cell root.0 e root.1)

    none_stored : ((k : KeptValue) → IsKeptValue x v k → ⊥) → Leaves []
    none_stored none = record {
      work = w;
      spans = [];
      over = over_none c n w;
      values = refl;
      inside = tt;
      right = record {
        values = λ u j kept. ⊎_elim
            (λ (e : u ≡ v). absurd (none j (subst (λ (z : ℕ). IsKeptValue x z j) e kept)))
            (λ d. subst (λ (z : Value). IsCell c.rights w.world.memory (at_work a w) j.cell j.ty (IsValue homes z))
            (sym (differ u d)) (right.values u j kept))
            (is_number u v);
        distances = λ u cell slot d e r. subst
            (λ (z : Value × Value). IsCell c.rights w.world.memory (at_work a w) cell (int 64) (IsDistanceOf z.0 z.1))
            (λ i. (sym (differ slot (no_root u slot r)) i, sym (differ u d) i)) (right.distances u cell slot e r);
      };
      there = old_there;
    }

    one_stored : (k : KeptValue) → IsKeptValue x v k → Leaves (store_to k.ty v k.cell ∷ [])
    one_stored k kept =
        let s : StoresCell c w a v k.cell k.ty n =
        cell_stores c w a law v k.cell n k.ty (IsValue homes (value_in old v))
        (kept_type k.ty (has_cells x is kept.number k kept.there).ty) (right.values v k kept) in
        let here : IsCell c.rights s.work.world.memory (at_work a s.work) k.cell k.ty (IsValue homes (value_in
        env v)) =
        cell_has c.rights s.work.world.memory (at_work a s.work) k.cell k.ty
        (λ (u : Value). u ≡ stored (access_of k.ty) (value_in w.values v)) (IsValue homes (value_in env v))
        (λ u e. subst (IsValue homes (value_in env v)) (sym e)
        (storable_stands homes k.ty (value_in env v) (value_in w.values v) (storable k kept) stands))
        s.cell_is in
        record {
          work = s.work;
          spans = s.spans;
          over = s.over;
          values = s.values;
          inside = each_turns (λ (z : Span). z.block ≡ s.cell_is.block)
              (λ (z : Span). (cell : ℕ) × IsCellOf x cell × Contains a.slots (record {
                alloca = cell;
                block =
                    z.block;
              }))
              (λ z e. (
                k.cell,
                kept_is_cell v k kept,
                subst (λ (b : ℕ). Contains a.slots (record { alloca = k.cell; block = b })) (sym e) s.cell_is.own,
              ))
              s.spans s.inside;
          right = record {
            values = λ u j other. ⊎_elim
                (λ (e : u ≡ v). subst
                (λ (z : ℕ). IsCell c.rights s.work.world.memory (at_work a s.work) j.cell j.ty
                (IsValue homes (value_in env z))) (sym e)
                (subst
                (λ (z : KeptValue). IsCell c.rights s.work.world.memory (at_work a s.work) z.cell z.ty
                (IsValue homes (value_in env v)))
                (same_kept v k j kept (subst (λ (z : ℕ). IsKeptValue x z j) e other)) here))
                (λ d. subst
                (λ (z : Value). IsCell c.rights s.work.world.memory (at_work a s.work) j.cell j.ty (IsValue homes z))
                (sym (differ u d))
                (others_kept c w a law own v k.cell n j.cell k.ty j.ty (IsValue homes (value_in old u)) s
                (λ e. d (kept_once u v j k other kept e))
                (right.values u j other)))
                (is_number u v);
            distances = λ u cell slot d e r. subst
                (λ (z : Value × Value). IsCell c.rights s.work.world.memory (at_work a s.work) cell (int 64)
                (IsDistanceOf z.0 z.1))
                (λ i. (sym (differ slot (no_root u slot r)) i, sym (differ u d) i))
                (others_kept c w a law own v k.cell n cell k.ty (int 64) (IsDistanceOf (value_in old slot)
                (value_in old u)) s
                (distance_apart u cell v k e kept) (right.distances u cell slot e r));
          };
          there = λ cell e.
              others_kept c w a law own v k.cell n cell k.ty (int 64) Anything s (distance_apart v cell v k e kept)
              (old_there cell e);
        }

    by_kept : (at : ℕ) → entry (plan x).places v ≡ Some at → (o : Option KeptValue) → slice_get (plan x).kept at ≡ o
        → Leaves (stored_one v o)
    by_kept at told (Some k) e = one_stored k (record { number = at; told = told; there = e })
    by_kept at told None e = none_stored none
      where
        none : (k : KeptValue) → IsKeptValue x v k → ⊥
        none k kept =
            let one : Some at ≡ Some kept.number = sym told ∙ kept.told in
            let same : at ≡ kept.number = cc in
            let no : None ≡ Some k =
            sym e ∙ ap (λ (m : ℕ). slice_get (plan x).kept m) same ∙ kept.there in
            absurd (cc)

    by_place : (o : Option ℕ) → entry (plan x).places v ≡ o → Leaves (stored_at (plan x).kept v o)
    by_place (Some at) e = by_kept at e (slice_get (plan x).kept at) refl
    by_place None e = none_stored (λ k kept. let no : None ≡ Some kept.number = sym e ∙ kept.told in absurd (cc))

    pub result_stored : Leaves (stored_by (plan x) v)
    result_stored = by_place (entry (plan x).places v) refl
