-- Phis whose operands are fetched at the ends of the blocks from which they come, and stored behind their block's
-- start.
use Rattle.std.specs.Prelude.{◌≡◌, ◌≢◌, ℕ, false, List, [], ◌∷◌, length, map, None, Option}
use Rattle.pass_proofs.specs.ir_model.declared.instr.Incoming.{Incoming}
use Rattle.pass_proofs.specs.ir_model.declared.instr.Phi.{Phi}
use Rattle.pass_proofs.specs.ir_model.declared.module.Block.{Block}
use Rattle.pass_proofs.specs.ir_model.declared.module.Function.{Function}
use Rattle.pass_proofs.specs.pass_cells.Kept.{entry}
use Rattle.pass_proofs.specs.pass_copies.Uses.{flag_at}
use Rattle.pass_proofs.specs.pass_fetch.Blocks.{end_at, next_after_phi, next_after_phis}
use Rattle.pass_proofs.specs.pass_fetch.Fetching.{fetched_operand, next_after}
use Rattle.pass_proofs.specs.pass_fetch.declared.fetch.Fetch.{Fetch}
use Rattle.pass_frames_code.specs.Distances.{IsBelow, SetsFrom}
use Rattle.pass_frames_code.specs.Fetched.{CanFetch, IsSeenAs, seen_of}
use Rattle.pass_frames_code.specs.Passes.{block_at, phi_ends}
use Rattle.pass_frames_code.specs.Places.{Framing, copies, fetched, plan, written}
use Rattle.pass_proofs.specs.run_laws.access.Lines.{Runs}
use Rattle.pass_proofs.specs.run_laws.changed.Changed.{Each}
use Rattle.pass_proofs.specs.run_memory.declared.pointer.Value.{Value}
use Rattle.pass_proofs.specs.run_step.Step.{Context, Work, incoming_from}

-- ---- operands of phis, from one label

-- what comes from the label can be fetched, and is one of the names below the first new one
abbrev pub CanComeFrom : List (Option Fetch) → (ℕ → Value) → (first : ℕ) → Context → Work → ℕ → Incoming → Type 0
CanComeFrom t given first c w label i =
    i.from ≡ label → CanFetch t given first c w i.value × IsBelow first i.value

abbrev pub CanAllComeFrom : List (Option Fetch) → (ℕ → Value) → (first : ℕ) → Context → Work → ℕ → List Block
    → Type 0
CanAllComeFrom t given first c w label bs =
    Each (λ (b : Block). Each (λ (p : Phi). Each (CanComeFrom t given first c w label) p.incoming) b.phis) bs

-- what comes from the label has in its place what is seen of it, from a new name on
abbrev pub AreIncomingSeen : List (Option Fetch) → (ℕ → Value) → Context → (w x : Work) → (label n : ℕ)
    → List Incoming → Type 0
AreIncomingSeen t given c w x label n [] = Unit {0}
AreIncomingSeen t given c w x label n (i ∷ is) =
    (i.from ≡ label → IsSeenAs t given c w x i.value (fetched_operand t n i.value))
    × AreIncomingSeen t given c w x label (next_after t n i.value) is

abbrev pub ArePhisSeen : List (Option Fetch) → (ℕ → Value) → Context → (w x : Work) → (label n : ℕ) → List Phi → Type 0
ArePhisSeen t given c w x label n [] = Unit {0}
ArePhisSeen t given c w x label n (p ∷ ps) =
    AreIncomingSeen t given c w x label n p.incoming × ArePhisSeen t given c w x label (next_after_phi t n p) ps

abbrev pub AreBlocksSeen : List (Option Fetch) → (ℕ → Value) → Context → (w x : Work) → (label n : ℕ) → List Block
    → Type 0
AreBlocksSeen t given c w x label n [] = Unit {0}
AreBlocksSeen t given c w x label n (b ∷ bs) =
    ArePhisSeen t given c w x label n b.phis × AreBlocksSeen t given c w x label (next_after_phis t n b.phis) bs

-- at the end of the block of a label all that comes from there is fetched: nothing but new names is set
pub record ArePhisFetched (t : List (Option Fetch)) (given : ℕ → Value) (c : Context) (f : Function) (label : ℕ)
    (w : Work) : Type 0 where
  pub work : Work
  pub runs : Runs c (end_at (phi_ends f t) label) w work
  pub sets : SetsFrom (length f.names) w work
  pub seen : AreBlocksSeen t given c w work label (length f.names) f.blocks

-- what phis get from a label
abbrev pub seen_phis : List (Option Fetch) → (ℕ → Value) → Context → Work → ℕ → List Phi → List (ℕ × Value)
seen_phis t given c w label ps =
    map (λ (p : Phi). (p.result, seen_of t given c w p.ty (incoming_from p.incoming label))) ps

-- ---- blocks in front of which nothing is moved

-- neither the entry, nor one to which a resume or destroy edge leads
pub record IsOrdinaryBlock (x : Framing) (k : ℕ) : Type 0 where
  pub later : k ≢ 0
  pub unresumed : flag_at (copies x).resumed (block_at (written x) k).label ≡ false
  pub unreturned : entry (plan x).returns (block_at (fetched x) k).label ≡ None

-- ---- stores of phis

abbrev pub given_phis : (Phi → Value) → List Phi → List (ℕ × Value)
given_phis value ps = map (λ (p : Phi). (p.result, value p)) ps
