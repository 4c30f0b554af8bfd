-- All rows in turn.
use Rattle.std.proofs.Common.{◌≡◌, ℕ, ◌+◌, ◌*◌, refl, subst, arith}
use Rattle.compiler.proofs.run_agreement.Compose.{compose_within, weaken}
use Rattle.compiler.specs.run_agreement.Agreements.{AgreesWithin}
use Rattle.compiler.specs.run_agreement.Factor.{size_factor, step_factor}
use Rattle.compiler.specs.run_agreement.Machines.{at}
use Rattle.compiler.specs.pass_cleanup.Cleanup.{clean_function}
use Rattle.compiler_theorem.proofs.parts.Agree.{framed_agrees}
use Rattle.compiler_theorem.proofs.theorem.Entries.{entry_before}
use Rattle.compiler_theorem.proofs.theorem.Facts.{good_layouts, live_apart}
use Rattle.compiler_theorem.proofs.theorem.Rows.{fields_conflict, framed_few, framed_within, somewhere_shown}
use Rattle.compiler_theorem.proofs.theorem.Tables.{source_tables}
use Rattle.compiler_theorem.specs.theorem.Anew.{Anew, IsAnewOf}
use Rattle.compiler_theorem.specs.theorem.Entries.{IsEntry, IsEntryCall, Run}
use Rattle.compiler_theorem.specs.theorem.Lowered.{HasFewBytes, IsLowered, Lowered, early, framed_run, lowered_from, plain_run, printed_from, source_run, split_from}
use Rattle.compiler_theorem.specs.Calls.{KeepsFrames}
use Rattle.pass_frames_prices.specs.FramePrices.{frames_factor}
use Rattle.compiler_theorem.specs.theorem.Theorem.{KeepsMeaning, KeepsRuns}
use Rattle.compiler.specs.ir_model.declared.module.Module.{Module}
use Rattle.pass_frames_meaning.specs.run_types.States.{AreArguments}
use Rattle.compiler.proofs.whole.lowered_sources.Row.{is_ready}
use Rattle.compiler.specs.cleanup.accepted.Ready.{IsReady}
use Rattle.compiler.specs.text_canonical.order.Order.{function_order}
use Rattle.compiler.proofs.whole.cleaned_sources.Sources.{cleaned_agrees}
use Rattle.compiler.proofs.whole.printed_order.Printed.{printed_agrees}

-- the entry of the printed module is that of the lowered one, and that is the split one's
pub entry_lowered : (l : Lowered) (n : Module) (entry other : ℕ) → IsEntry l.source (printed_from l n) entry other
    → IsEntry l.source (lowered_from l n) entry other
entry_lowered l n entry other e =
    entry_before l.source (lowered_from l n) (printed_from l n) function_order (λ f. refl) refl entry other e

pub entry_split : (l : Lowered) (n : Module) (entry other : ℕ) → IsEntry l.source (lowered_from l n) entry other
    → IsEntry l.source (split_from l n) entry other
entry_split l n entry other e =
    entry_before l.source (split_from l n) (lowered_from l n) clean_function (λ f. refl) refl entry other e

whole_factor : (s : ℕ) → ((4 * (4 * s)) * 4) * 1 ≡ 64 * s * (1 + 0)
whole_factor s = grind arith

module _ (a : Anew) (l : Lowered) (low : IsLowered l) (few : HasFewBytes l) (anew : IsAnewOf (early l) a) (r : Run) (other : ℕ)
    (entry : IsEntry l.source (lowered_from l l.framed) r.entry other) (fits : AreArguments l.source r.entry r.args) where
  call : IsEntryCall l.source r
  call = record { callable = entry.callable; fits = fits }

  abbrev split_entry : IsEntry l.source (split_from l l.framed) r.entry other
  split_entry = entry_split l l.framed r.entry other entry

  ready : IsReady l.layouts l.framed
  ready = is_ready l.text l.source low.source.stands low.source.accepted l.share l.layouts low.laid l.framed
      low.is_framed

  abbrev f : ℕ
  f = 4 * (4 * size_factor l.source)

  by_rows : AgreesWithin ((f * 4) * 1) (at (source_run l r)) (at (plain_run (lowered_from l l.framed) r other))
  by_rows =
      compose_within (f * 4) 1 (at (source_run l r)) (at (plain_run (split_from l l.framed) r other))
      (at (plain_run (lowered_from l l.framed) r other))
      (compose_within f 4 (at (source_run l r)) (at (framed_run l l.framed r))
      (at (plain_run (split_from l l.framed) r other))
      (framed_within a l low few anew r call)
      (framed_agrees l low (good_layouts l low) ready few r other call split_entry))
      (cleaned_agrees l.text l.source low.source.stands low.source.accepted l.share l.layouts low.laid l.framed
      low.is_framed other
      r.args r.answers)

  -- before its names are put in order
  pub lowered_within : AgreesWithin (step_factor l.source 0) (at (source_run l r))
      (at (plain_run (lowered_from l l.framed) r other))
  lowered_within = subst (λ k. AgreesWithin k (at (source_run l r)) (at (plain_run (lowered_from l l.framed) r other)))
      (whole_factor (size_factor l.source)) by_rows

module _ (a : Anew) (l : Lowered) (low : IsLowered l) (few : HasFewBytes l) (anew : IsAnewOf (early l) a) (r : Run) (other : ℕ)
    (entry : IsEntry l.source (printed_from l l.framed) r.entry other) (fits : AreArguments l.source r.entry r.args) where
  one : (k : ℕ) → k * 1 ≡ k
  one k = grind arith

  within : AgreesWithin (step_factor l.source 0) (at (source_run l r))
      (at (plain_run (printed_from l l.framed) r other))
  within = subst (λ k. AgreesWithin k (at (source_run l r)) (at (plain_run (printed_from l l.framed) r other)))
      (one (step_factor l.source 0))
      (compose_within (step_factor l.source 0) 1 (at (source_run l r))
      (at (plain_run (lowered_from l l.framed) r other)) (at (plain_run (printed_from l l.framed) r other))
      (lowered_within a l low few anew r other (entry_lowered l l.framed r.entry other entry) fits)
      (printed_agrees l.text l.source low.source.bytes low.source.stands low.source.accepted l.share l.layouts
      low.laid l.framed
      low.is_framed low.few other r.args r.answers).1)

  keeps_runs : KeepsRuns l r other
  keeps_runs = record {
    stands = (printed_agrees l.text l.source low.source.bytes low.source.stands low.source.accepted l.share l.layouts
        low.laid l.framed
        low.is_framed low.few other r.args r.answers).0;
    headline = weaken (step_factor l.source 0) 0 (step_factor l.source 0) (step_factor l.source 0)
        (at (source_run l r)) (at (plain_run (printed_from l l.framed) r other)) (omega arith) (omega arith)
        within.runs;
    agrees = within;
  }

  meaning : KeepsMeaning l r other
  meaning = record {
    runs = keeps_runs;
    shared = somewhere_shown a l low few anew r (record { callable = entry.callable; fits = fits });
    apart = λ n fine. live_apart l low.source r n;
    conflicts = fields_conflict a l low few anew r (record { callable = entry.callable; fits = fits });
  }

-- ---- an accepted source has the tables of what is handed on and made anew

pub runs_within : (l : Lowered) (low : IsLowered l) → HasFewBytes l → (r : Run) (other : ℕ)
    → IsEntry l.source (lowered_from l l.framed) r.entry other → AreArguments l.source r.entry r.args
    → AgreesWithin (step_factor l.source 0) (at (source_run l r)) (at (plain_run (lowered_from l l.framed) r other))
runs_within l low few r other entry fits =
    let tables = source_tables l low in lowered_within tables.0 l low few tables.1 r other entry fits

pub runs_kept : (l : Lowered) (low : IsLowered l) → HasFewBytes l → (r : Run) (other : ℕ)
    → IsEntry l.source (printed_from l l.framed) r.entry other → AreArguments l.source r.entry r.args
    → KeepsRuns l r other
runs_kept l low few r other entry fits =
    let tables = source_tables l low in keeps_runs tables.0 l low few tables.1 r other entry fits

pub keeps_meaning : (l : Lowered) (low : IsLowered l) → HasFewBytes l → (r : Run) (other : ℕ)
    → IsEntry l.source (printed_from l l.framed) r.entry other → AreArguments l.source r.entry r.args
    → KeepsMeaning l r other
keeps_meaning l low few r other entry fits =
    let tables = source_tables l low in meaning tables.0 l low few tables.1 r other entry fits

-- so its framed form keeps the meaning, within the factors of the first pass and of frames
sixteen : (s : ℕ) → 4 * (4 * s) ≡ 2 * (8 * s)
sixteen s = grind arith

pub frames_kept : (l : Lowered) (low : IsLowered l) → HasFewBytes l → (r : Run) → IsEntryCall l.source r → KeepsFrames l r
frames_kept l low few r call =
    let tables = source_tables l low in
    record {
      agrees = subst (λ k. AgreesWithin k (at (source_run l r)) (at (framed_run l l.framed r)))
          (sixteen (frames_factor l.source)) (framed_few tables.0 l low few tables.1 r call);
      shared = somewhere_shown tables.0 l low few tables.1 r call;
      apart = λ n fine. live_apart l low.source r n;
      conflicts = fields_conflict tables.0 l low few tables.1 r call;
    }

-- and so do its parts
pub parts_kept : (l : Lowered) (low : IsLowered l) → HasFewBytes l → (r : Run) (other : ℕ) → IsEntryCall l.source r
    → IsEntry l.source (split_from l l.framed) r.entry other
    → AgreesWithin 4 (at (framed_run l l.framed r)) (at (plain_run (split_from l l.framed) r other))
parts_kept l low few r other call entry =
    framed_agrees l low (good_layouts l low)
    (is_ready l.text l.source low.source.stands low.source.accepted l.share l.layouts low.laid l.framed low.is_framed)
    few r other call entry

-- from the framed form to what is printed
pub printed_within : (l : Lowered) (low : IsLowered l) → HasFewBytes l → (r : Run) (other : ℕ)
    → IsEntry l.source (printed_from l l.framed) r.entry other → AreArguments l.source r.entry r.args
    → AgreesWithin 4 (at (framed_run l l.framed r)) (at (plain_run (printed_from l l.framed) r other))
printed_within l low few r other entry fits =
    let lowered = entry_lowered l l.framed r.entry other entry in
    let parts = entry_split l l.framed r.entry other lowered in
    compose_within (4 * 1) 1 (at (framed_run l l.framed r)) (at (plain_run (lowered_from l l.framed) r other))
    (at (plain_run (printed_from l l.framed) r other))
    (compose_within 4 1 (at (framed_run l l.framed r)) (at (plain_run (split_from l l.framed) r other))
    (at (plain_run (lowered_from l l.framed) r other))
    (parts_kept l low few r other (record { callable = entry.callable; fits = fits }) parts)
    (cleaned_agrees l.text l.source low.source.stands low.source.accepted l.share l.layouts low.laid l.framed
    low.is_framed other r.args r.answers))
    (printed_agrees l.text l.source low.source.bytes low.source.stands low.source.accepted l.share l.layouts
    low.laid l.framed low.is_framed low.few other r.args r.answers).1
