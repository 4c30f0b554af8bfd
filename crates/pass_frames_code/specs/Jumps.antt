-- What is asked of the end of a block where a coroutine jumps from it, by the code of the framed form.
use Rattle.std.specs.Prelude.{◌≡◌, ◌≤◌, ℕ, List, length, codes, slice_get, Some}
use Rattle.std.specs.List.{Contains}
use Rattle.pass_proofs.specs.ir_model.Names.{block_labelled, position_of}
use Rattle.pass_proofs.specs.ir_model.declared.instr.Phi.{Phi}
use Rattle.pass_proofs.specs.ir_model.declared.instr.Terminator.{Terminator}
use Rattle.pass_proofs.specs.ir_model.declared.module.Block.{Block}
use Rattle.pass_proofs.specs.pass_cells.Cells.{fetches_of}
use Rattle.pass_proofs.specs.pass_copies.declared.slot.EarlySlot.{EarlySlot}
use Rattle.pass_proofs.specs.pass_fetch.Blocks.{with_fetches}
use Rattle.pass_proofs.specs.pass_fetch.Fetching.{next_after_all}
use Rattle.pass_proofs.specs.pass_fetch.Instrs.{fetched_term, term_operands}
use Rattle.pass_frames_code.specs.Code.{address_state, end_code, end_term, last_state, load_name, slot_table}
use Rattle.pass_frames_code.specs.Distances.{IsBelow}
use Rattle.pass_frames_code.specs.Edges.{block_to}
use Rattle.pass_frames_code.specs.Ends.{Ends, IsPhiTwice, MayEnd}
use Rattle.pass_frames_code.specs.Led.{IsNotSet, IsTwiceFor}
use Rattle.pass_frames_code.specs.Passes.{block_at}
use Rattle.pass_frames_code.specs.Places.{Framing, copies, edged, framed, named, plan, unmarked}
use Rattle.pass_frames_code.specs.Related.{AreBuiltOf, Building}
use Rattle.pass_renewed_proof.specs.Renewed.{RenewedGiven}
use Rattle.pass_proofs.specs.run_framed.Framed.{framed_context}
use Rattle.pass_proofs.specs.run_laws.changed.Changed.{Each}
use Rattle.pass_proofs.specs.run_laws.memory.Pointers.{Home}
use Rattle.pass_proofs.specs.run_laws.transfer.Transfer.{IsSameCase, cases_at}
use Rattle.pass_proofs.specs.run_memory.declared.pointer.Value.{Value}
use Rattle.pass_proofs.specs.run_source.Source.{context_of}
use Rattle.pass_proofs.specs.run_source.State.{work_of}
use Rattle.pass_proofs.specs.run_source.declared.state.State.{State}
use Rattle.pass_proofs.specs.run_step.Step.{AtTerm, Context, GoTo, Work, incoming_from, label_of, phis_of, term_action}

-- the phis of a block before and behind the two passes that fetch
pub record PhisInPlace (x : Framing) (k : ℕ) : Type 0 where
  pub before : Block
  pub loaded : Block
  pub between : Block
  pub behind : Block
  pub here : slice_get (named x).blocks k ≡ Some before
  pub loaded_there : slice_get (with_fetches (named x) (fetches_of (plan x)) (codes "$c.use.")).blocks k ≡ Some loaded
  pub between_there : slice_get (unmarked x).blocks k ≡ Some between
  pub same : between.phis ≡ loaded.phis
  pub behind_there : slice_get (with_fetches (unmarked x) (slot_table x) (codes "$c.at.")).blocks k ≡ Some behind
  pub source : phis_of (slice_get (edged x).blocks k) ≡ before.phis
  pub target : phis_of (slice_get (framed x).blocks k) ≡ behind.phis

abbrev pub label_at : Framing → ℕ → ℕ
label_at x k = (block_at (edged x) k).label

abbrev pub MayEndAt : Framing → (given reached : ℕ → Value) → Context → ℕ → Work → Type 0
MayEndAt x given reached d k w =
    MayEnd (fetches_of (plan x)) (slot_table x) given reached d (named x) (unmarked x) (label_at x k)
    (load_name (last_state x k)) (address_state (last_state x k)).0 (term_operands (block_at (edged x) k).term)
    (term_operands (block_at (unmarked x) k).term) w

abbrev pub EndsAt : Framing → (given reached : ℕ → Value) → Context → ℕ → Work → Type 0
EndsAt x given reached d k w =
    Ends (fetches_of (plan x)) (slot_table x) given reached d (named x) (unmarked x) (label_at x k)
    (load_name (last_state x k)) (address_state (last_state x k)).0 (term_operands (block_at (edged x) k).term)
    (term_operands (block_at (unmarked x) k).term) w

-- what the terminator looks at is fetched by names between, and stands for the source's; cases are the same
pub record MayGo (b : Building) (g : RenewedGiven) (s t : State) (r : AreBuiltOf b s t) (e : Terminator)
    (given reached : ℕ → Value) : Type 0 where
  pub term : (block_at (edged (b.framing s.top.func)) s.top.block).term ≡ e
  pub between : (block_at (unmarked (b.framing s.top.func)) s.top.block).term
      ≡ fetched_term (fetches_of (plan (b.framing s.top.func)))
      (load_name (last_state (b.framing s.top.func) s.top.block)) e
  pub low : length (named (b.framing s.top.func)).names ≤ load_name (last_state (b.framing s.top.func) s.top.block)
  pub fit : next_after_all (fetches_of (plan (b.framing s.top.func)))
      (load_name (last_state (b.framing s.top.func) s.top.block)) (term_operands e)
      ≤ length (unmarked (b.framing s.top.func)).names
  pub below : Each (IsBelow (length (named (b.framing s.top.func)).names)) (term_operands e)
  pub seen : Each (IsTwiceFor r.homes (fetches_of (plan (b.framing s.top.func))) (slot_table
      (b.framing s.top.func)) given
      reached (context_of g.given s) (framed_context b.given t) (work_of s) (work_of t)) (term_operands e)
  pub cases : Each (IsSameCase (context_of g.given s) (framed_context b.given t)) (cases_at (AtTerm e))
  pub room : length s.top.values ≤ length t.top.values

-- what is fetched at the end may be, phis get what stands for the source's, and the terminator goes to the same label
pub record MayJumpBy (b : Building) (g : RenewedGiven) (s t : State) (homes : List Home) (label : ℕ) : Type 0 where
  pub given : ℕ → Value
  pub reached : ℕ → Value
  pub ends : MayEndAt (b.framing s.top.func) given reached (framed_context b.given t) s.top.block (work_of t)
  pub label_same : (block_at (unmarked (b.framing s.top.func)) s.top.block).label
      ≡ label_at (b.framing s.top.func) s.top.block
  pub phis : PhisInPlace (b.framing s.top.func) (block_to (b.framing s.top.func) label)
  pub seen : Each (IsPhiTwice homes (fetches_of (plan (b.framing s.top.func))) (slot_table
      (b.framing s.top.func)) given
      reached (context_of g.given s) (framed_context b.given t) (work_of s) (work_of t)
      (label_at (b.framing s.top.func) s.top.block) (length (edged (b.framing s.top.func)).names)) phis.before.phis
  pub below : Each (λ (p : Phi). IsBelow (length (named (b.framing s.top.func)).names)
      (incoming_from p.incoming (label_at (b.framing s.top.func) s.top.block))) phis.before.phis
  -- new names of slots that are used before begin aren't those of what is fetched
  pub unset : (z : EarlySlot) → Contains (copies (b.framing s.top.func)).slots z
      → Each (IsNotSet z.cell)
      (end_code (b.framing s.top.func) s.top.block (last_state (b.framing s.top.func) s.top.block))
      × Each (IsNotSet z.temporary)
      (end_code (b.framing s.top.func) s.top.block (last_state (b.framing s.top.func) s.top.block))
  pub source_label : label_of (slice_get (edged (b.framing s.top.func)).blocks s.top.block)
      ≡ label_at (b.framing s.top.func) s.top.block
  pub target_label : label_of (slice_get (framed (b.framing s.top.func)).blocks s.top.block)
      ≡ label_at (b.framing s.top.func) s.top.block
  pub block : position_of (framed (b.framing s.top.func)) label ≡ block_to (b.framing s.top.func) label
  pub goes : (e : EndsAt (b.framing s.top.func) given reached (framed_context b.given t) s.top.block (work_of t))
      → term_action (framed_context b.given t) e.work
      (end_term (b.framing s.top.func) (last_state (b.framing s.top.func) s.top.block)
      (block_at (edged (b.framing s.top.func)) s.top.block).term) ≡ GoTo label

-- where the states are related, by their homes
abbrev pub MayJump : (b : Building) (g : RenewedGiven) (s t : State) → AreBuiltOf b s t → ℕ → Type 0
MayJump b g s t r label = MayJumpBy b g s t r.homes label

-- the same by the code of the coroutine
pub record CanJump (b : Building) (g : RenewedGiven) (s t : State) (r : AreBuiltOf b s t) (e : Terminator) (label : ℕ)
    : Type 0 where
  pub given : ℕ → Value
  pub reached : ℕ → Value
  pub ends : MayEndAt (b.framing s.top.func) given reached (framed_context b.given t) s.top.block (work_of t)
  pub seen : Each (IsPhiTwice r.homes (fetches_of (plan (b.framing s.top.func))) (slot_table
      (b.framing s.top.func)) given
      reached (context_of g.given s) (framed_context b.given t) (work_of s) (work_of t)
      (label_at (b.framing s.top.func) s.top.block) (length (edged (b.framing s.top.func)).names))
      (block_at (edged (b.framing s.top.func)) (block_to (b.framing s.top.func) label)).phis
  pub below : Each (λ (p : Phi). IsBelow (length (named (b.framing s.top.func)).names)
      (incoming_from p.incoming (label_at (b.framing s.top.func) s.top.block)))
      (block_at (edged (b.framing s.top.func)) (block_to (b.framing s.top.func) label)).phis
  pub unset : (z : EarlySlot) → Contains (copies (b.framing s.top.func)).slots z
      → Each (IsNotSet z.cell)
      (end_code (b.framing s.top.func) s.top.block (last_state (b.framing s.top.func) s.top.block))
      × Each (IsNotSet z.temporary)
      (end_code (b.framing s.top.func) s.top.block (last_state (b.framing s.top.func) s.top.block))
  pub labelled : block_labelled (edged (b.framing s.top.func)) label ≡ Some (block_to (b.framing s.top.func) label)
  pub go : MayGo b g s t r e given reached
