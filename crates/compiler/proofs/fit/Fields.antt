-- The fields of what is so taken are fit.
use Rattle.std.proofs.Common.{◌≡◌, ◌⊎◌, inl, inr, ⊎_elim, ℕ, zero, suc, ◌<◌, Bool, true, false, List, [], ◌∷◌, ◌++◌, length, Option, None, Some, refl, sym, ap, ◌∙◌, subst, arith}
use Rattle.std.specs.List.{list_all}
use Rattle.std.specs.Prelude.{map, nat_le, option_to_list, slice_get, if◌then◌else◌, ◌==◌, ◌||◌}
use Rattle.pass_proofs.specs.frame_contents.Held.{crossing_values, field_of, fields_of, frame_slots, held_of, index_field, suspend_count}
use Rattle.pass_proofs.specs.frame_contents.declared.held.Holding.{Holding}
use Rattle.frame_good.specs.Frames.{HasFitFields}
use Rattle.frame_good.specs.Good.{AreFit, is_alignment}
use Rattle.frame_layout.specs.Layouts.{is_index, is_promise}
use Rattle.frame_layout.specs.declared.layout.Field.{Field}
use Rattle.ir_base.specs.declared.outcome.Place.{Place}
use Rattle.pass_proofs.proofs.ir_laws.facts.Members.{each_both, each_there, each_turns}
use Rattle.pass_proofs.proofs.ir_laws.facts.Truth.{and_first, and_second, equal_numbers, holds}
use Rattle.pass_proofs.proofs.ir_laws.facts.names_apart.Words.{either as either_of}
use Rattle.pass_proofs.proofs.rule_laws.frames.begin_order.Sizes.{all_behind}
use Rattle.pass_proofs.proofs.ir_laws.paths.source_rules.Locals.{Apart}
use Rattle.pass_proofs.proofs.rule_laws.rules.counted.PartFacts.{block_passes, signature_passes}
use Rattle.pass_proofs.proofs.rule_laws.rules.local_rules.Woven.{apart_names}
use Rattle.pass_proofs.proofs.rule_laws.rules.source_rules.Locals.{block_names, names_are}
use Rattle.pass_proofs.proofs.ir_laws.facts.Lists.{row_of}
use Rattle.pass_proofs.specs.ir_laws.facts.counted.Widths.{has_width}
use Rattle.pass_proofs.specs.rule_laws.rules.counted.Widths.{first_other_width, is_of_other_width}
use Rattle.ir_model.specs.Layout.{size_of}
use Rattle.ir_model.specs.declared.instr.Instr.{Instr}
use Rattle.ir_model.specs.declared.instr.Phi.{Phi}
use Rattle.ir_model.specs.declared.module.Block.{Block}
use Rattle.ir_model.specs.declared.module.Function.{Function}
use Rattle.ir_model.specs.declared.module.Module.{Module}
use Rattle.ir_model.specs.declared.module.Param.{Param}
use Rattle.pass_proofs.specs.ir_parts.Contents.{instr_types}
use Rattle.pass_proofs.specs.ir_parts.Locals.{locals_of}
use Rattle.pass_proofs.specs.ir_parts.Parts.{OfInstr, OfPhi}
use Rattle.pass_proofs.specs.ir_paths.Slots.{has_name, promise_of}
use Rattle.pass_proofs.specs.rule_locals.Extents.{breaks_extents, first_past_extent, is_aligned, is_sized, most_of_alloca}
use Rattle.pass_proofs.specs.rule_locals.Instrs.{on_instr}
use Rattle.pass_proofs.specs.rule_names.Definitions.{first_twice}
use Rattle.pass_proofs.specs.rule_names.declared.stage.Stage.{Stage}
use Rattle.pass_proofs.specs.rule_uses.Undefined.{params_of}
use Rattle.pass_proofs.specs.run_laws.changed.Changed.{Each}
use Rattle.compiler.proofs.fit.Held.{AreTaken, IsFitBlock, IsFitInstr, IsSlotAligned, IsWell, held_taken, one_at, well_at}

-- ---- one further element behind mapped ones

module _ {A B : Type 0} (g : A → B) (last : B) where
  last_there : (xs : List A) → slice_get (map g xs ++ last ∷ []) (length xs) ≡ Some last
  last_there [] = refl
  last_there (x ∷ xs) = last_there xs

  pub either_at : (xs : List A) (k : ℕ) (y : B) → slice_get (map g xs ++ last ∷ []) k ≡ Some y
      → ((x : A) × (slice_get xs k ≡ Some x) × (g x ≡ y)) ⊎ ((k ≡ length xs) × (last ≡ y))
  either_at [] zero y e = let same : last ≡ y = cc in inr (refl, same)
  either_at [] (suc k) y e = absurd (cc)
  either_at (x ∷ xs) zero y e = let same : g x ≡ y = cc in inl (x, refl, same)
  either_at (x ∷ xs) (suc k) y e = ⊎_elim (λ h. inl h) (λ h. inr (ap suc h.0, h.1)) (either_at xs k y e)

-- ---- the index

index_aligned : (f : Function) → is_alignment (index_field f).align ≡ true
index_aligned f = on (nat_le (suspend_count f) 256)
  where
    on : (b : Bool) → is_alignment (if b then 1 else 2) ≡ true
    on true = refl
    on false = refl

pub index_takes : (f : Function) → 0 < (index_field f).size
index_takes f = on (nat_le (suspend_count f) 256)
  where
    on : (b : Bool) → 0 < (if b then 1 else 2)
    on true = omega arith
    on false = omega arith

-- ---- the promise

promises_name : (o : Option ℕ) (v w : ℕ) → has_name (option_to_list o) v ≡ true → has_name (option_to_list o) w ≡ true
    → v ≡ w
promises_name None v w p q = absurd (cc)
promises_name (Some n) v w p q = sym (is n v p) ∙ is n w q
  where
    is : (n v : ℕ) → ((n == v) || false) ≡ true → n ≡ v
    is n v e = ⊎_elim (λ h. equal_numbers n v h) (λ no. absurd (cc)) (either_of (n == v) false e)

-- ---- the fields

module _ (f : Function) (hs : List Holding) (ns : List ℕ) (taken : AreTaken (promise_of f) hs ns)
    (apart : Apart ns) where
  at : (k : ℕ) (x : Field) → slice_get (fields_of f hs) k ≡ Some x
      → ((h : Holding) × (slice_get hs k ≡ Some h) × (field_of f h ≡ x)) ⊎ ((k ≡ length hs) × (index_field f ≡ x))
  at k x e = either_at (field_of f) (index_field f) hs k x e

  well : (k : ℕ) (h : Holding) → slice_get hs k ≡ Some h → IsWell (promise_of f) h
  well k h e = well_at (promise_of f) hs ns taken k h e

  aligned_at : (k : ℕ) (x : Field) → slice_get (fields_of f hs) k ≡ Some x → is_alignment x.align ≡ true
  aligned_at k x e = ⊎_elim
      (λ (h : (y : Holding) × (slice_get hs k ≡ Some y) × (field_of f y ≡ x)). sym
      (ap (λ (z : Field). is_alignment z.align) h.2) ∙ (well k h.0 h.1).aligned)
      (λ (h : (k ≡ length hs) × (index_field f ≡ x)). sym (ap (λ (z : Field). is_alignment z.align) h.1)
      ∙ index_aligned f)
      (at k x e)

  -- the promise is something held
  promise_held : (k : ℕ) (x : Field) → slice_get (fields_of f hs) k ≡ Some x → is_promise x.kind ≡ true
      → (h : Holding) × (slice_get hs k ≡ Some h) × (has_name (option_to_list (promise_of f)) h.value ≡ true)
  promise_held k x e p = ⊎_elim
      (λ (h : (y : Holding) × (slice_get hs k ≡ Some y) × (field_of f y ≡ x)).
      (h.0, h.1, (well k h.0 h.1).promised (ap (λ (z : Field). is_promise z.kind) h.2 ∙ p)))
      (λ (h : (k ≡ length hs) × (index_field f ≡ x)). let no : false ≡ true = ap (λ (z : Field). is_promise z.kind) h.1
      ∙ p in absurd (cc))
      (at k x e)

  -- the index is last
  index_last : (k : ℕ) (x : Field) → slice_get (fields_of f hs) k ≡ Some x → is_index x.kind ≡ true → k ≡ length hs
  index_last k x e p = ⊎_elim
      (λ (h : (y : Holding) × (slice_get hs k ≡ Some y) × (field_of f y ≡ x)). let no : false ≡ true = sym
      (well k h.0 h.1).no_index ∙ ap (λ (z : Field). is_index z.kind) h.2 ∙ p in absurd (cc))
      (λ (h : (k ≡ length hs) × (index_field f ≡ x)). h.0)
      (at k x e)

  pub taken_fit : AreFit (fields_of f hs)
  taken_fit =
      record {
        aligned = aligned_at;
        one_promise = λ j k x y e d p q.
            let a = promise_held j x e p in
            let b = promise_held k y d q in
            one_at (promise_of f) hs ns taken apart j k a.0 b.0 a.1 b.1
            (promises_name (promise_of f) a.0.value b.0.value a.2 b.2);
        one_index = λ j k x y e d p q. index_last j x e p ∙ sym (index_last k y d q);
        last = length hs;
        index = index_field f;
        is_there = last_there (field_of f) (index_field f) hs;
        is_index = refl;
        takes_bytes = index_takes f;
      }

-- ---- by the rules

slot_aligned : (m : Module) (promise : Option ℕ) (is_value is_slot : ℕ → Bool) (p : Place) (i : Instr)
    → breaks_extents Stage.Source m p i ≡ false → IsSlotAligned promise m is_value is_slot i
slot_aligned m promise is_value is_slot p (Instr.Alloca r ty align) e = and_second
    (is_sized (most_of_alloca Stage.Source) (size_of m ty)) (is_aligned align) (holds _ e)
slot_aligned m promise is_value is_slot p _ e = tt

pub fields_fit : (m : Module) (k : ℕ) (f : Function) → first_other_width k f ≡ None
    → first_past_extent Stage.Source m k f ≡ None → first_twice [] (locals_of k f) ≡ None → HasFitFields m f
fields_fit m k f widths extents once c are =
    let names : List ℕ = params_of f ++ row_of block_names f.blocks in
    let apart : Apart names = subst Apart (names_are k f) (apart_names [] (locals_of k f) once) in
    let signature = signature_passes is_of_other_width k f widths in
    let params : list_all has_width (map (λ (p : Param). p.ty) f.params) ≡ true = all_behind (option_to_list f.result)
    (map (λ (p : Param). p.ty) f.params) (holds
    (list_all has_width (option_to_list f.result ++ map (λ (p : Param). p.ty) f.params)) signature.1) in
    let blocks : Each (IsFitBlock (promise_of f) m is_value is_slot) f.blocks = each_there
    (IsFitBlock (promise_of f) m is_value is_slot) f.blocks (λ j b e. of_block j b e) in
    let held : List Holding = held_of m f c.classes c.crossing in
    let taken : AreTaken (promise_of f) held names = held_taken m f is_value is_slot params blocks in
    taken_fit f c.held names (subst (λ (hs : List Holding). AreTaken (promise_of f) hs names)
    (sym are.held_are) taken) apart
  where
    is_value : ℕ → Bool
    is_value = has_name (crossing_values c.crossing)

    is_slot : ℕ → Bool
    is_slot = has_name (frame_slots f c.classes)

    of_block : (j : ℕ) (b : Block) → slice_get f.blocks j ≡ Some b → IsFitBlock (promise_of f) m is_value is_slot b
    of_block j b e =
        let x = block_passes is_of_other_width k f widths j b e in
        let y = block_passes (on_instr (breaks_extents Stage.Source m)) k f extents j b e in
        let Wide : Instr → Type 0 = λ i. (q : Place) × (q.block ≡ Some j) ×
        (is_of_other_width q (OfInstr i) ≡ false) in
        let Sized : Instr → Type 0 = λ i. (q : Place) × (q.block ≡ Some j) ×
        (on_instr (breaks_extents Stage.Source m) q (OfInstr i) ≡ false) in
        record {
          phis = each_turns (λ (p : Phi). (q : Place) × (q.block ≡ Some j) × (is_of_other_width q (OfPhi p) ≡ false))
              (λ (p : Phi). has_width p.ty ≡ true)
              (λ p z. and_first (has_width p.ty) true (holds (list_all has_width (p.ty ∷ [])) z.2)) b.phis x.phis;
          instrs = each_turns (λ (i : Instr). Wide i × Sized i) (IsFitInstr (promise_of f) m is_value is_slot)
              (λ i z. (
                holds (list_all has_width (instr_types i)) z.0.2,
                slot_aligned m
                    (promise_of f) is_value is_slot z.1.0 i z.1.2,
              )) b.instrs
              (each_both Wide Sized b.instrs x.instrs y.instrs);
        }
