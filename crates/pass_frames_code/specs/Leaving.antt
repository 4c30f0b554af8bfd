-- Branches of coroutines, and the windows that they leave.
use Rattle.std.specs.Prelude.{◌≡◌, ◌⊎◌, ◌∷◌, ◌+◌, [], List, Ok, Some, length, slice_get, true, ℕ}
use Rattle.pass_proofs.specs.flow_solver.Paths.{IsListed}
use Rattle.pass_proofs.specs.ir_model.Names.{block_labelled}
use Rattle.pass_proofs.specs.ir_paths.Paths.{entry_point}
use Rattle.pass_proofs.specs.ir_paths.Windows.{leaves}
use Rattle.pass_proofs.specs.ir_paths.declared.point.Window.{Window}
use Rattle.pass_frames_code.specs.Passes.{block_at}
use Rattle.pass_frames_code.specs.Places.{Framing, edged, framed, instrs_at, own_place}
use Rattle.pass_frames_code.specs.Related.{Building, is_coroutine}
use Rattle.pass_frames_code.specs.Stepping.{IsNotEntering}
use Rattle.pass_renewed_proof.specs.Renewed.{RenewedGiven}
use Rattle.pass_proofs.specs.run_laws.changed.Changed.{Each}
use Rattle.pass_proofs.specs.run_source.Source.{go_to, left_windows}
use Rattle.pass_proofs.specs.run_source.declared.state.Instance.{Instance}
use Rattle.pass_proofs.specs.run_source.declared.state.State.{State}
use Rattle.pass_proofs.specs.run_source_tables.Given.{facts_at}

-- the framed run so many instructions further, at its terminator
abbrev pub further : State → ℕ → State
further t n = record t { top = record t.top { at = t.top.at + n } }

-- no window is left, in either run
pub record StaysInside (b : Building) (g : RenewedGiven) (s u : State) (label : ℕ) : Type 0 where
  pub source : left_windows g.given s label ≡ []
  pub target : left_windows b.given.given u label ≡ []

-- Windows are left in both. Each of the framed form is that of a save at its place. The first run's step is defined, so
-- its instance is suspended. The instance is one of the activation's coroutine, as in each state of a run.
pub record LeavesWindows (b : Building) (g : RenewedGiven) (s u : State) (label : ℕ) : Type 0 where
  pub window : Window
  pub more : List Window
  pub other : Window
  pub others : List Window
  pub source : left_windows g.given s label ≡ window ∷ more
  pub target : left_windows b.given.given u label ≡ other ∷ others
  pub saves : Each (λ (w : Window). (z : Window) × IsListed z (window ∷ more)
      × (w.save ≡ own_place (b.framing s.top.func) z.save)) (other ∷ others)
  pub after : State
  pub does : go_to g.given s label ≡ Ok after
  pub coroutine : (i : ℕ) (x : Instance) → s.top.instance ≡ Some i → slice_get s.instances i ≡ Some x
      → x.coroutine ≡ s.top.func

-- either way both runs do the same
abbrev pub IsBranch : Building → RenewedGiven → (s u : State) → ℕ → Type 0
IsBranch b g s u label = StaysInside b g s u label ⊎ LeavesWindows b g s u label

-- ---- windows of the framed form

-- Where a branch from the end of a block leaves the window of the coroutine, it leaves that of the framed form. The
-- save of the one is that of the other at its place.
pub record IsWindowPlaced (x : Framing) (v w : Window) : Type 0 where
  pub save : w.save ≡ own_place x v.save
  pub leaves_too : (k label target : ℕ) → slice_get (edged x).blocks k ≡ Some (block_at (edged x) k)
      → block_labelled (edged x) label ≡ Some target
      → leaves (record { block = k; at = length (block_at (framed x) k).instrs }) (entry_point (framed x) label) w
      ≡ leaves (record { block = k; at = length (instrs_at x k) }) (entry_point (edged x) label) v

-- one to one
abbrev pub AreWindowsPlaced : Framing → List Window → List Window → Type 0
AreWindowsPlaced x [] [] = Unit {0}
AreWindowsPlaced x [] (w ∷ ws) = ⊥
AreWindowsPlaced x (v ∷ vs) [] = ⊥
AreWindowsPlaced x (v ∷ vs) (w ∷ ws) = IsWindowPlaced x v w × AreWindowsPlaced x vs ws

-- The next step is a branch to a label, at the end of a block of a coroutine, which is defined. An instance is one of
-- its activations' coroutine, as in each state of a run.
pub record IsAtBranch (b : Building) (g : RenewedGiven) (s : State) (label : ℕ) : Type 0 where
  pub coroutine : is_coroutine b s.top.func ≡ true
  pub mode : IsNotEntering s.top.mode
  pub at : s.top.at ≡ length (instrs_at (b.framing s.top.func) s.top.block)
  pub here : slice_get (edged (b.framing s.top.func)).blocks s.top.block
      ≡ Some (block_at (edged (b.framing s.top.func)) s.top.block)
  pub target : ℕ
  pub labelled : block_labelled (edged (b.framing s.top.func)) label ≡ Some target
  pub windows : AreWindowsPlaced (b.framing s.top.func) (facts_at g.given.facts s.top.func).windows
      (facts_at b.given.given.facts s.top.func).windows
  pub after : State
  pub does : go_to g.given s label ≡ Ok after
  pub instances : (i : ℕ) (x : Instance) → s.top.instance ≡ Some i → slice_get s.instances i ≡ Some x
      → x.coroutine ≡ s.top.func
