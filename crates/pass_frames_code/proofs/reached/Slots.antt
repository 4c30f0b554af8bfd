-- The address of a slot in the frame is made, and stands for the slot's.
use Rattle.std.proofs.Common.{◌≡◌, ℕ, ◌+◌, ◌%◌, ◌^◌, ◌<◌, true, List, refl, sym, ap, ◌∙◌, subst, arith}
use Rattle.std.proofs.lemmas.Option.{slice_get-map}
use Rattle.std.specs.Prelude.{None, Option, Some, option_map, slice_get}
use Rattle.pass_proofs.specs.ir_model.declared.operand.Operand.{Operand}
use Rattle.pass_proofs.specs.pass_cells.Kept.{entry, joined}
use Rattle.pass_proofs.specs.pass_fetch.Fetching.{fetch_at}
use Rattle.pass_proofs.specs.pass_fetch.declared.fetch.Fetch.{Fetch}
use Rattle.pass_proofs.specs.pass_frames.Framed.{begin_of}
use Rattle.pass_frames_code.specs.Code.{slot_table}
use Rattle.pass_frames_code.specs.Fetched.{CanFetch, IsGiven}
use Rattle.pass_frames_code.specs.Places.{Framing, offsets}
use Rattle.pass_frames_code.specs.Reached.{address_by, address_in_frame}
use Rattle.pass_proofs.specs.fetch.rules.Fetches.{base_of}
use Rattle.pass_proofs.specs.run_laws.access.Lines.{pointer_at}
use Rattle.pass_proofs.specs.run_laws.memory.Pointers.{Home, IsValue, home_of}
use Rattle.pass_proofs.specs.run_memory.Pointers.{moved, offset_of}
use Rattle.pass_proofs.specs.run_memory.declared.pointer.Offset.{Offset}
use Rattle.pass_proofs.specs.run_memory.declared.pointer.Pointer.{Pointer}
use Rattle.pass_proofs.specs.run_memory.declared.pointer.Value.{Value}
use Rattle.pass_proofs.specs.run_step.Step.{Context, Work}
use Rattle.pass_proofs.specs.run_step.Values.{Env, pointer_to, value_in}

-- ---- it can be made

module _ (x : Framing) (c : Context) (w : Work) (block start n v : ℕ)
    (begun : value_in w.values (begin_of x.function) ≡ pointer_at block start) (old : begin_of x.function < n)
    (near : (d : ℕ) → entry (offsets x) v ≡ Some d → start + d < 2 ^ 64) where
  abbrev Given : Fetch → Type 0
  Given f = IsGiven c w f (address_in_frame x block start v) × (base_of f < n)

  reached : (d : ℕ) → entry (offsets x) v ≡ Some d → Given (Fetch.Address (begin_of x.function) d)
  reached d told = (
    record {
      block = block;
      offset = start;
      leads = begun;
      near = near d told;
      is = ap (address_by block start) told;
    },
    old,
  )

  by_entry : (o : Option (Option ℕ)) → slice_get (offsets x) v ≡ o → (f : Fetch)
      → fetch_at (option_map (option_map (Fetch.Address (begin_of x.function))) o) ≡ Some f → Given f
  by_entry None there f e = absurd (cc)
  by_entry (Some None) there f e = absurd (cc)
  by_entry (Some (Some d)) there f e =
      let same : Fetch.Address (begin_of x.function) d ≡ f = cc in
      subst Given same (reached d (ap joined there))

  pub can_reach : CanFetch (slot_table x) (address_in_frame x block start) n c w (Operand.Local v)
  can_reach f e =
      by_entry (slice_get (offsets x) v) refl f
      (sym (ap fetch_at (slice_get-map (option_map (Fetch.Address (begin_of x.function))) (offsets x) v)) ∙ e)

-- ---- it stands

moved_on : (k : ℕ) → k < 2 ^ 64 → offset_of k ≡ moved (offset_of 0) k
moved_on k lt =
    let same : k ≡ (0 + k) % 2 ^ 64 = omega (arith, lt) in
    ap (λ (n : ℕ). record { bits = n }) same

pub address_stands : (x : Framing) (homes : List Home) (env : Env) (block start v b d : ℕ)
    → entry (offsets x) v ≡ Some d → value_in env v ≡ pointer_to b
    → home_of homes b ≡ record { block = block; offset = start + d; is_seen = true } → start + d < 2 ^ 64
    → IsValue homes (value_in env v) (address_in_frame x block start v)
address_stands x homes env block start v b d told is home near =
    subst (λ (u : Value). IsValue homes u (address_in_frame x block start v)) (sym is) (
      ap (λ (h : Home). h.is_seen) home,
      ap (address_by block start) told
          ∙ ap (λ (o : Offset). Value.Ptr (Pointer.At block o)) (moved_on (start + d) near)
          ∙ ap (λ (h : Home). Value.Ptr (Pointer.At h.block (moved (offset_of 0) h.offset))) (sym home),
    )
