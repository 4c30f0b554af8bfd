-- Jumps of a coroutine: what stands at the end of a block and in front of one, and what is executed there.
use Rattle.std.specs.Prelude.{◌≡◌, ◌≢◌, ◌<◌, ◌≤◌, ◌+◌, ℕ, true, false, List, [], ◌∷◌, length, slice_get, Bool}
use Rattle.std.specs.List.{Contains}
use Rattle.pass_proofs.specs.ir_base.declared.outcome.Outcome.{Outcome}
use Rattle.pass_proofs.specs.ir_model.Names.{position_of}
use Rattle.pass_proofs.specs.ir_model.declared.instr.Instr.{Instr}
use Rattle.pass_proofs.specs.ir_model.declared.instr.Phi.{Phi}
use Rattle.pass_proofs.specs.ir_model.declared.instr.Terminator.{Terminator}
use Rattle.pass_proofs.specs.pass_copies.declared.slot.EarlySlot.{EarlySlot}
use Rattle.pass_frames_code.specs.Costs.{whole}
use Rattle.pass_frames_code.specs.Led.{RunsThrough, SparesBlocks}
use Rattle.pass_frames_code.specs.Lined.{GivesNone}
use Rattle.pass_frames_code.specs.Lines.{HasOwnBlocks, at_work}
use Rattle.pass_frames_code.specs.Passes.{block_at}
use Rattle.pass_frames_code.specs.Phis.{given_phis}
use Rattle.pass_frames_code.specs.Stores.{IsNameGiven}
use Rattle.pass_frames_code.specs.Places.{Framing, copies, edged, fetched, framed, instrs_at, is_return, named, place}
use Rattle.pass_frames_code.specs.Related.{AreBuiltOf, AreCellsRight, Building, IsCellName, IsFreeOf, is_coroutine}
use Rattle.pass_frames_code.specs.Stepping.{IsNotEntering}
use Rattle.pass_renewed_proof.specs.Renewed.{RenewedGiven}
use Rattle.pass_proofs.specs.run_framed.Framed.{frame_rights, framed_context}
use Rattle.pass_proofs.specs.run_laws.access.Lines.{StandAt}
use Rattle.pass_proofs.specs.run_laws.changed.Changed.{Each}
use Rattle.pass_proofs.specs.run_laws.memory.Pointers.{Home, IsValue}
use Rattle.pass_proofs.specs.run_laws.transfer.Transfer.{AreOver}
use Rattle.pass_proofs.specs.run_memory.Memory.{owner_rights}
use Rattle.pass_proofs.specs.run_memory.declared.pointer.Value.{Value}
use Rattle.pass_proofs.specs.run_source.Source.{context_of}
use Rattle.pass_proofs.specs.run_source.State.{function_of, work_of}
use Rattle.pass_proofs.specs.run_source.declared.state.State.{State}
use Rattle.pass_proofs.specs.run_step.Step.{AtTerm, GoTo, Work, fetch, label_of, phi_values, phis_of, term_action, with_all}
use Rattle.pass_proofs.specs.run_step.Values.{value_in}
use Rattle.pass_proofs.specs.run_step.declared.world.Slot.{Slot}

-- ---- code

-- behind the last instruction of a block stands a line, and then the terminator
pub record EndsInPlace (x : Framing) (k : ℕ) (line : List Instr) (e : Terminator) : Type 0 where
  pub stand : StandAt (framed x) k (place x (record { block = k; at = length (instrs_at x k) })).at line
  pub term : fetch (framed x) k ((place x (record { block = k; at = length (instrs_at x k) })).at + length line)
      ≡ AtTerm e
  pub whole : whole x k ≡ (place x (record { block = k; at = length (instrs_at x k) })).at + length line + 1

-- in front of the first instruction of a block stands a line
pub record FrontsInPlace (x : Framing) (k : ℕ) (line : List Instr) : Type 0 where
  pub stand : StandAt (framed x) k 0 line
  pub place : (place x (record { block = k; at = 0 })).at ≡ length line

-- ---- the first run

-- the block to which a label leads
abbrev pub block_to : Framing → ℕ → ℕ
block_to x label = position_of (edged x) label

-- what its phis get
abbrev pub entered_phis : RenewedGiven → State → Framing → ℕ → List (ℕ × Value)
entered_phis g s x label =
    phi_values g.given.code s.top.values (label_of (slice_get (edged x).blocks s.top.block))
    (phis_of (slice_get (edged x).blocks (block_to x label)))

-- The next step is a jump of a coroutine to a block that is neither the entry nor on a resume or destroy edge.
pub record IsAtJump (b : Building) (g : RenewedGiven) (s : State) (e : Terminator) (label : ℕ) : Type 0 where
  pub runs : s.outcome ≡ Outcome.Running
  pub coroutine : is_coroutine b s.top.func ≡ true
  pub mode : IsNotEntering s.top.mode
  pub at : s.top.at ≡ length (instrs_at (b.framing s.top.func) s.top.block)
  pub there : fetch (function_of g.given s) s.top.block s.top.at ≡ AtTerm e
  pub does : term_action (context_of g.given s) (work_of s) e ≡ GoTo label
  pub unreturned : is_return (b.framing s.top.func) s.top.block ≡ false
  pub later : block_to (b.framing s.top.func) label ≢ 0
  pub ordinary : is_return (b.framing s.top.func) (block_to (b.framing s.top.func) label) ≡ false
  pub room : length s.top.values ≡ length (edged (b.framing s.top.func)).names
  pub wide : length (edged (b.framing s.top.func)).names ≤ length (framed (b.framing s.top.func)).names

-- ---- the framed run

-- names get values, one by one, that stand for each other; they are below a bound
abbrev pub ArePairs : List Home → ℕ → List (ℕ × Value) → List (ℕ × Value) → Type 0
ArePairs homes bound [] [] = Unit {0}
ArePairs homes bound [] (q ∷ qs) = ⊥
ArePairs homes bound (p ∷ ps) [] = ⊥
ArePairs homes bound (p ∷ ps) (q ∷ qs) =
    ((q.0 ≡ p.0) × (p.0 < bound) × IsValue homes p.1 q.1) × ArePairs homes bound ps qs

-- behind a line at the end of the block the framed terminator goes to the same block, whose phis get what stands for
-- the source's
pub record EndsLed (b : Building) (g : RenewedGiven) (s t : State) (homes : List Home) (label : ℕ)
    (line : List Instr) (e : Terminator) : Type 0 where
  pub work : Work
  pub runs : RunsThrough (framed_context b.given t) (λ (u : Work). u.world ≡ t.world) line (work_of t) work
  pub world : work.world ≡ t.world
  pub room : length work.values ≡ length t.top.values
  pub low : (u : ℕ) → u < length (named (b.framing s.top.func)).names
      → value_in work.values u ≡ value_in t.top.values u
  pub wheres : (z : EarlySlot) → Contains (copies (b.framing s.top.func)).slots z
      → (value_in work.values z.cell ≡ value_in t.top.values z.cell)
      × (value_in work.values z.temporary ≡ value_in t.top.values z.temporary)
  pub goes : term_action (framed_context b.given t) work e ≡ GoTo label
  pub gives : Each (GivesNone b.given.given.code) line
  pub block : position_of (framed (b.framing s.top.func)) label ≡ block_to (b.framing s.top.func) label
  pub phis : ArePairs homes (length (edged (b.framing s.top.func)).names)
      (entered_phis g s (b.framing s.top.func) label)
      (phi_values b.given.given.code work.values
      (label_of (slice_get (framed (b.framing s.top.func)).blocks s.top.block))
      (phis_of (slice_get (framed (b.framing s.top.func)).blocks (block_to (b.framing s.top.func) label))))

-- where the states are related, by their homes
abbrev pub AreEndsLed : (b : Building) (g : RenewedGiven) (s t : State) → AreBuiltOf b s t → ℕ → List Instr
    → Terminator → Type 0
AreEndsLed b g s t r label line e = EndsLed b g s t r.homes label line e

-- the world and values where the block is entered
abbrev pub entered_work : Building → State → Framing → (block label : ℕ) → Work → Work
entered_work b t x block label w =
    record {
      world = w.world;
      values = with_all w.values
          (phi_values b.given.given.code w.values (label_of (slice_get (framed x).blocks block))
          (phis_of (slice_get (framed x).blocks (block_to x label))));
    }

-- nothing but cells of the activation is touched, and nothing is seen
pub record IsOnFront (x : Framing) (t : State) (u : Work) : Type 0 where
  pub events : u.world.events ≡ t.world.events
  pub spares : SparesBlocks x t.top t.world.memory u.world.memory

-- a line in front of the block stores the phis
pub record FrontsLed (b : Building) (g : RenewedGiven) (s t : State) (homes : List Home) (hides : ℕ → Bool) (label : ℕ)
    (w : Work) (line : List Instr) : Type 0 where
  pub work : Work
  pub runs : RunsThrough (framed_context b.given t) (IsOnFront (b.framing s.top.func) t) line
      (entered_work b t (b.framing s.top.func) s.top.block label w) work
  pub last : IsOnFront (b.framing s.top.func) t work
  pub values : work.values ≡ (entered_work b t (b.framing s.top.func) s.top.block label w).values
  pub over : AreOver owner_rights (frame_rights b.given t.instances) homes hides (λ d. d) s.world work.world
  pub gives : Each (GivesNone b.given.given.code) line
  pub right : AreCellsRight (b.framing s.top.func) homes (frame_rights b.given t.instances) work.world.memory
      (with_all s.top.values (entered_phis g s (b.framing s.top.func) label)) (at_work t.top work)

abbrev pub AreFrontsLed : (b : Building) (g : RenewedGiven) (s t : State) → AreBuiltOf b s t → ℕ → Work → List Instr
    → Type 0
AreFrontsLed b g s t r label w line = FrontsLed b g s t r.homes r.hides label w line

-- what the phis of the block get may be stored, and has a name in the target
pub record PhisGiven (b : Building) (g : RenewedGiven) (s t : State) (homes : List Home) (label : ℕ) (w : Work)
    : Type 0 where
  pub value : Phi → Value
  pub same : given_phis value (block_at (fetched (b.framing s.top.func)) (block_to (b.framing s.top.func) label)).phis
      ≡ entered_phis g s (b.framing s.top.func) label
  pub each : Each
      (IsNameGiven (b.framing s.top.func) homes (entered_work b t (b.framing s.top.func) s.top.block label w))
      (given_phis value (block_at (fetched (b.framing s.top.func)) (block_to (b.framing s.top.func) label)).phis)

abbrev pub ArePhisGiven : (b : Building) (g : RenewedGiven) (s t : State) → AreBuiltOf b s t → ℕ → Work → Type 0
ArePhisGiven b g s t r label w = PhisGiven b g s t r.homes label w

-- ---- cells where a line begins

-- what a front asks of the state in which its block is left: cells are right, stand free of the source, and each has a
-- block of its own
pub record AreCellsFit (b : Building) (s t : State) (homes : List Home) (hides : ℕ → Bool) : Type 0 where
  pub right : AreCellsRight (b.framing s.top.func) homes (frame_rights b.given t.instances) t.world.memory s.top.values
      t.top
  pub own : HasOwnBlocks t.top
  pub free : (slot : Slot) → Contains t.top.slots slot → IsCellName (b.framing s.top.func) slot.alloca
      → IsFreeOf homes hides s.world.memory slot.block
  pub world : AreOver owner_rights (frame_rights b.given t.instances) homes hides (λ d. d) s.world t.world
  pub enough : length s.top.values ≤ length t.top.values
