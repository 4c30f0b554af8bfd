-- Operands of which kept ones are loaded from their cells.
use Rattle.std.proofs.Common.{◌≡◌, ℕ, Bool, List, refl, sym, ap, ◌∙◌}
use Rattle.std.specs.Prelude.{None, Option, Some, slice_get}
use Rattle.pass_proofs.proofs.ir_laws.facts.Members.{each_all, each_turns}
use Rattle.pass_proofs.specs.ir_model.Ty.{Ty}
use Rattle.pass_proofs.specs.ir_model.declared.instr.Instr.{Instr}
use Rattle.pass_proofs.specs.ir_model.declared.operand.Operand.{Operand}
use Rattle.pass_proofs.specs.ir_parts.Contents.{instr_operands}
use Rattle.pass_proofs.specs.pass_cells.Cells.{fetch_by, fetch_for, fetches_of}
use Rattle.pass_proofs.specs.pass_cells.Kept.{entry, value_types}
use Rattle.pass_proofs.specs.pass_cells.Links.{bases_of, slots_of}
use Rattle.pass_proofs.specs.pass_cells.declared.plan.KeptValue.{KeptValue}
use Rattle.pass_proofs.specs.pass_fetch.Fetching.{fetch_of}
use Rattle.pass_proofs.specs.pass_fetch.Instrs.{with_fetched}
use Rattle.pass_proofs.specs.pass_fetch.declared.fetch.Fetch.{Fetch}
use Rattle.pass_frames_code.proofs.code.Left.{fetch_found}
use Rattle.pass_frames_code.proofs.code.Names.{Count, F, First, Kept, keeping, local}
use Rattle.pass_frames_code.proofs.lines.Loads.{can_load, loaded_stands}
use Rattle.pass_frames_code.specs.Distances.{SetsFrom}
use Rattle.pass_frames_code.specs.Fetched.{AreSeenAs, CanFetch, seen_by}
use Rattle.pass_frames_code.specs.Framings.{IsFraming}
use Rattle.pass_frames_code.specs.Loaded.{loaded_value}
use Rattle.pass_frames_code.specs.Ordinary.{IsSeenFor, MayBeMade, MayFetch, StandsUnkept}
use Rattle.pass_frames_code.specs.Places.{Framing, edged, plan}
use Rattle.pass_proofs.proofs.cells.rules.Planned.{fetch_there}
use Rattle.pass_proofs.proofs.cells.rules.Plans.{kept_as, kept_at}
use Rattle.pass_proofs.specs.run_laws.changed.Changed.{Each}
use Rattle.pass_proofs.specs.run_laws.embedded.Related.{HasNoSlot}
use Rattle.pass_proofs.specs.run_laws.memory.Pointers.{Home, IsValue}
use Rattle.pass_proofs.specs.run_laws.transfer.Transfer.{AreSameDistances, IsPointedAlike, same_maps}
use Rattle.pass_proofs.specs.run_memory.declared.pointer.Value.{Value}
use Rattle.pass_proofs.specs.run_source.declared.state.Activation.{Activation}
use Rattle.pass_proofs.specs.run_step.Step.{AtInstr, Context, Work}
use Rattle.pass_proofs.specs.run_step.Values.{value_in}

module _ (x : Framing) (is : IsFraming x) (homes : List Home) (hides : ℕ → Bool) (c d : Context) (w y : Work)
    (a : Activation) (n : ℕ) (i : Instr) (m : MayFetch x homes hides c d w y a n i) where
  abbrev T : List (Option Fetch)
  T = fetches_of (plan x)

  abbrev given : ℕ → Value
  given = loaded_value x d y

  -- what isn't fetched isn't kept
  not_kept : (u : ℕ) → fetch_of T (Operand.Local u) ≡ None → entry (plan x).places u ≡ None
  not_kept u e = on (entry (plan x).places u) refl
    where
      by : (at : ℕ) → entry (plan x).places u ≡ Some at → (o : Option KeptValue) → slice_get (plan x).kept at ≡ o
          → entry (plan x).places u ≡ None
      by at told (Some k) there =
          let no : None ≡ Some (Fetch.Load k.ty k.cell) =
          sym e ∙ fetch_there (plan x).kept (plan x).places u ∙ ap (fetch_for (plan x).kept) told ∙ ap fetch_by there in
          absurd (cc)
      by at told None there =
          let slots : List (Option ℕ) = slots_of (local x is) (bases_of (edged x)) in
          let types : List Ty = value_types (F x is) (Kept x is) in
          let here : slice_get (Kept x is).values at ≡ Some u = (keeping x is).there u at told in
          let no : None ≡ Some (kept_as (First x is) (Count x is) types (plan x).cells slots at u) =
          sym there
          ∙ kept_at (First x is) (Count x is) types (plan x).cells slots (Kept x is).values at u here in
          absurd (cc)

      on : (o : Option ℕ) → entry (plan x).places u ≡ o → entry (plan x).places u ≡ None
      on None told = told
      on (Some at) told = by at told (slice_get (plan x).kept at) refl

  seen_one : (o : Operand) → StandsUnkept x homes c d w y o → IsSeenFor homes T given c d w y o
  seen_one (Operand.Local u) h ty = on (fetch_of T (Operand.Local u)) refl
    where
      on : (o : Option Fetch) → fetch_of T (Operand.Local u) ≡ o
          → IsValue homes (value_in w.values u) (seen_by given d y ty (Operand.Local u) o)
      on None e = h (not_kept u e)
      on (Some f) e =
          let z = fetch_found x is u f e in
          loaded_stands x is homes d w.values a y m.cells u z.kept
          (record { number = z.at; told = z.told; there = z.there })
  seen_one _ h ty = h ty

  can_one : (o : Operand) → CanFetch T given n d y o
  can_one (Operand.Local u) = can_load x is homes d w.values a y m.cells n u m.low
  can_one _ = tt

  pub seen_all : Each (IsSeenFor homes T given c d w y) (instr_operands i)
  seen_all =
      each_turns (StandsUnkept x homes c d w y) (IsSeenFor homes T given c d w y) seen_one (instr_operands i) m.stands

  -- so the instruction may be made
  pub may_make : IsPointedAlike same_maps c d w.values (AtInstr i)
      → ((z : Work) → SetsFrom n y z → AreSeenAs T given d y z n (instr_operands i)
      → AreSameDistances c d w.values z.values (AtInstr i) (AtInstr (with_fetched T n i)))
      → HasNoSlot (AtInstr i) → MayBeMade homes hides same_maps T given c d w y n i
  may_make pointed distance no_slot = record {
    joined = m.joined;
    can = each_all (CanFetch T given n d y) can_one (instr_operands i);
    below = m.below;
    room = m.room;
    seen = seen_all;
    callee = m.callee;
    pointed = pointed;
    distance = distance;
    no_slot = no_slot;
    bytes = m.bytes;
  }
