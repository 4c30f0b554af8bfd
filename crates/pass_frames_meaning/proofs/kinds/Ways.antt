-- What indices add to an address goes by the types alone, and uses no new name.
use Rattle.std.proofs.Common.{◌≡◌, ℕ, zero, suc, ◌^◌, ◌-◌, ◌<◌, List, [], ◌∷◌, Option, refl, sym, ap, ◌∙◌, subst, arith}
use Rattle.std.specs.Prelude.{min}
use Rattle.pass_frames_proof.proofs.ir_laws.facts.Numbers.{min_small}
use Rattle.pass_frames_proof.specs.ir_model.Layout.{Extent, extent_of, extent_or, field_offset_from, no_fields, rounded_up, size_of, type_named, type_or, unnamed, with_field}
use Rattle.pass_frames_proof.specs.ir_model.Ty.{Ty, Tys, array, field, int, named, none, ptr, structure, token}
use Rattle.pass_frames_proof.specs.ir_model.declared.module.Module.{Module}
use Rattle.pass_frames_proof.specs.ir_model.declared.operand.Arg.{Arg}
use Rattle.pass_frames_proof.specs.ir_parts.Contents.{arg_operands}
use Rattle.pass_frames_proof.specs.pass_distances.Ways.{field_number, inner_type, inner_ways, way_at, ways_of}
use Rattle.pass_frames_proof.specs.pass_distances.declared.way.Way.{Way}
use Rattle.pass_frames_proof.specs.pass_fetch.Fetching.{fetched_arg, fetched_args, fetched_operand, next_after}
use Rattle.pass_frames_proof.specs.pass_fetch.declared.fetch.Fetch.{Fetch}
use Rattle.pass_frames_proof.specs.Distances.{AreFields, AreFieldsInside, AreWaysBelow, IsBelow, IsField, IsWayBelow}
use Rattle.pass_frames_proof.specs.run_laws.changed.Changed.{Each}

-- ---- by the types

module _ (m k : Module) (types : k.types ≡ m.types) where
  unnamed_same : (t : Ty) → unnamed k t ≡ unnamed m t
  unnamed_same (int w) = refl
  unnamed_same ptr = refl
  unnamed_same token = refl
  unnamed_same (array n t) = refl
  unnamed_same (structure ts) = refl
  unnamed_same (named n) = ap (λ ts. type_or (named n) (type_named ts n)) types

  pub size_same : (t : Ty) → size_of k t ≡ size_of m t
  size_same t = ap (λ ts. (extent_or (extent_of ts t)).size) types

  offset_same : (ts : Tys) (e : Extent) (i : ℕ) → field_offset_from k e ts i ≡ field_offset_from m e ts i
  offset_same none e i = refl
  offset_same (field t ts) e zero = ap (λ xs. rounded_up e.size (extent_or (extent_of xs t)).align) types
  offset_same (field t ts) e (suc i) =
      offset_same ts _ i
      ∙ ap (λ xs. field_offset_from m (with_field e (extent_or (extent_of xs t))) ts i) types

  way_same : (t : Ty) (a : Arg) → way_at k t a ≡ way_at m t a
  way_same (array n t) a = ap (λ (z : ℕ). Way.Elements a (min z (2 ^ 64 - 1))) (size_same t)
  way_same (structure ts) a =
      ap (λ (z : ℕ). Way.Bytes (min z (2 ^ 64 - 1))) (offset_same ts no_fields (field_number a.value))
  way_same (int w) a = refl
  way_same ptr a = refl
  way_same token a = refl
  way_same (named n) a = refl

  inner_same : (t : Ty) (args : List Arg) → inner_ways k t args ≡ inner_ways m t args
  inner_same t [] = refl
  inner_same t (a ∷ args) =
      ap (λ (u : Ty). way_at k u a ∷ inner_ways k (inner_type u a) args) (unnamed_same t)
      ∙ (λ j. way_same (unnamed m t) a j ∷ inner_same (inner_type (unnamed m t) a) args j)

  pub ways_same : (t : Ty) (args : List Arg) → ways_of k t args ≡ ways_of m t args
  ways_same t [] = refl
  ways_same t (a ∷ args) = λ j. Way.Elements a (min (size_same t j) (2 ^ 64 - 1)) ∷ inner_same t args j

  -- ---- so do literals of fields, which are fetched by no name

  field_same : (t : List (Option Fetch)) (n : ℕ) (u : Ty) (a : Arg) → IsField u a
      → IsField u (fetched_arg t n a) × (inner_type u (fetched_arg t n a) ≡ inner_type u a)
  field_same t n (structure ts) a h = (
    (h.0, h.1, ap (fetched_operand t n) h.2, h.3),
    λ j. Rattle.pass_frames_proof.specs.ir_model.Layout.field_type ts (field_number ((ap (fetched_operand t n) h.2 ∙ sym h.2) j)),
  )
  field_same t n (array s u) a h = (tt, refl)
  field_same t n (int w) a h = (tt, refl)
  field_same t n ptr a h = (tt, refl)
  field_same t n token a h = (tt, refl)
  field_same t n (named q) a h = (tt, refl)

  fields_inside : (t : List (Option Fetch)) (n : ℕ) (u : Ty) (args : List Arg) → AreFieldsInside m u args
      → AreFieldsInside k u (fetched_args t n args)
  fields_inside t n u [] h = tt
  fields_inside t n u (a ∷ args) h =
      let one = field_same t n (unnamed m u) a h.0 in
      let same = unnamed_same u in (
        subst (λ (z : Ty). IsField z (fetched_arg t n a)) (sym same) one.0,
        subst (λ (z : Ty). AreFieldsInside k z (fetched_args t (next_after t n a.value) args))
            (sym (ap (λ (z : Ty). inner_type z (fetched_arg t n a)) same ∙ one.1))
            (fields_inside t (next_after t n a.value) (inner_type (unnamed m u) a) args h.1),
      )

  pub fields_loaded : (t : List (Option Fetch)) (n : ℕ) (u : Ty) (args : List Arg) → AreFields m u args
      → AreFields k u (fetched_args t n args)
  fields_loaded t n u [] h = tt
  fields_loaded t n u (a ∷ args) h = fields_inside t (next_after t n a.value) u args h

-- ---- names

capped_low : (n : ℕ) → min n (2 ^ 64 - 1) < 2 ^ 64
capped_low n = min_small n (2 ^ 64 - 1)

module _ (m : Module) (n : ℕ) where
  way_below : (t : Ty) (a : Arg) → IsBelow n a.value → IsWayBelow n (way_at m t a)
  way_below (array s t) a low = (low, capped_low (size_of m t))
  way_below (structure ts) a low = capped_low _
  way_below (int w) a low = omega arith
  way_below ptr a low = omega arith
  way_below token a low = omega arith
  way_below (named q) a low = omega arith

  inner_below : (t : Ty) (args : List Arg) → Each (IsBelow n) (arg_operands args) → AreWaysBelow n (inner_ways m t args)
  inner_below t [] h = tt
  inner_below t (a ∷ args) h =
      (way_below (unnamed m t) a h.0, inner_below (inner_type (unnamed m t) a) args h.1)

  pub ways_below : (t : Ty) (args : List Arg) → Each (IsBelow n) (arg_operands args) → AreWaysBelow n (ways_of m t args)
  ways_below t [] h = tt
  ways_below t (a ∷ args) h = ((h.0, capped_low (size_of m t)), inner_below t args h.1)
