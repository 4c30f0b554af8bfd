-- What is lowered of a source agrees with it: one row for each pass.
use Rattle.std.specs.Prelude.{ℕ, ◌+◌, []}
use Rattle.pass_frames_meaning.specs.run_hooks.alive.Apart.{LiveAreApart}
use Rattle.compiler.specs.run_agreement.Agreements.{Agrees, AgreesWithin}
use Rattle.compiler.specs.run_agreement.Factor.{most_operands_of_functions, most_phis_of_functions}
use Rattle.compiler.specs.run_agreement.Factor.{step_factor}
use Rattle.compiler.specs.run_agreement.Machines.{IsFine, at, state_at}
use Rattle.compiler.specs.text_canonical.canonical.Items.{module_text}
use Rattle.compiler.specs.run_source.declared.state.State.{State}
use Rattle.compiler_theorem.specs.theorem.Anew.{Anew}
use Rattle.compiler_theorem.specs.theorem.Conflicting.{HasConflicts}
use Rattle.compiler_theorem.specs.theorem.Entries.{Run}
use Rattle.compiler_theorem.specs.theorem.Built.{building}
use Rattle.compiler_theorem.specs.theorem.Lowered.{IsLowered, Lowered, edged, framed_run, lowered_from}
use Rattle.compiler_theorem.specs.theorem.Lowered.{plain_run, printed_from}
use Rattle.compiler_theorem.specs.theorem.Lowered.{source_run}
use Rattle.pass_frames_prices.specs.FramePrices.{frame_prices}
use Rattle.pass_frames_prices.specs.Numbers.{most_names}
use Rattle.pass_frames_meaning.specs.pass_renewed_proof.Prices.{Prices}
use Rattle.compiler_theorem.specs.theorem.SharedBytes.{AreShown}
use Rattle.compiler.specs.text_grammar.Text.{StandsFor}
use Rattle.pass_frames_meaning.specs.pass_renewed_meaning.Followed.{AreInStep}

-- states of the run that hands values on and of that which makes slots anew, at corresponding steps
abbrev pub AreMadeAnew : Lowered → Anew → State → State → Type 0
AreMadeAnew l a = AreInStep (edged l) a.flags a.roots

-- the prices of steps: 4 for each name of the function that has most and each operand, and 4
abbrev pub prices_of : (l : Lowered) → IsLowered l → Anew → Prices
prices_of l low a =
    frame_prices (building l low.is_framed []) a.flags (edged l) (most_names l.source.functions)
    (most_operands_of_functions l.source.functions + most_phis_of_functions l.source.functions)

-- | Pass | from | to | costs | law | standing |
-- | saves written out, edges with blocks, what is needed handed on | Source | Kept | 4 | `sources_agree_with_framed_forms` | proved |
-- | slots made anew and frames built, by prices | Kept | Framed | 4 * (1 + p + q), on average | the same, `framed` | proved |
-- | calls give frames, e in one function | Framed | Framed | 1 + e | `eliding` of `ElidedSteps` | open |
-- | functions split | Framed | Plain | 4 | `framed_forms_agree_with_their_parts` | proved if no call gives a frame |
-- | calls of coro.id gone | Plain | Plain | 1 | `cleaned_sources_keep_meaning` | proved |
-- | names in order | Plain | Plain | 1 | `printed_names_keep_meaning` | proved |

-- a state of the framed run in which the slots and values of a state of the source stand
pub record IsSomewhereShown (l : Lowered) (r : Run) (n : ℕ) : Type 0 where
  pub steps : ℕ
  pub shown : AreShown l.source l.layouts.coroutines (state_at (source_run l r) n)
      (state_at (framed_run l l.framed r) steps)

-- the printed text stands for a module whose runs agree with the source's within its step factor, with as many
-- allocator calls
pub record KeepsRuns (l : Lowered) (r : Run) (other : ℕ) : Type 0 where
  pub stands : StandsFor (module_text (lowered_from l l.framed)) (printed_from l l.framed)
  pub headline : Agrees (step_factor l.source 0) (step_factor l.source 0) (at (source_run l r))
      (at (plain_run (printed_from l l.framed) r other))
  pub agrees : AgreesWithin (step_factor l.source 0) (at (source_run l r))
      (at (plain_run (printed_from l l.framed) r other))

-- so it does, and in frames slots and values stand where they lie by the layouts
pub record KeepsMeaning (l : Lowered) (r : Run) (other : ℕ) : Type 0 where
  pub runs : KeepsRuns l r other
  pub shared : (n : ℕ) → IsFine (at (source_run l r) n).outcome → IsSomewhereShown l r n
  pub apart : (n : ℕ) → IsFine (at (source_run l r) n).outcome → LiveAreApart l.source (state_at (source_run l r) n)
  pub conflicts : (n : ℕ) → IsFine (at (source_run l r) n).outcome
      → HasConflicts l.source (state_at (source_run l r) n)
