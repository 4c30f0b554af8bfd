-- The pieces of a block: it is cut at begin and at each save, and ends at its suspend; where the part goes on behind a suspend, it also ends at the end, and before begin.
use Rattle.std.specs.Prelude.{ℕ, Bool, true, false, List, [], map, filter_map, slice_get, slice_set, Some, None, Option, option_map, ◌+◌, ◌∷◌, ◌++◌, if◌then◌else◌, ◌==◌}
use Rattle.ir_model.specs.declared.instr.Case.{Case}
use Rattle.ir_model.specs.declared.instr.Incoming.{Incoming}
use Rattle.ir_model.specs.declared.instr.Instr.{Instr}
use Rattle.ir_model.specs.declared.instr.Phi.{Phi}
use Rattle.ir_model.specs.declared.instr.Terminator.{Terminator}
use Rattle.ir_model.specs.declared.module.Block.{Block}
use Rattle.ir_model.specs.declared.operand.Callee.{Callee}
use Rattle.ir_model.specs.declared.operand.Intrinsic.{Intrinsic}
use Rattle.pass_intrinsics.specs.Cuts.{cut_at, goes_on}
use Rattle.pass_intrinsics.specs.Lowered.{lowered, names_taken}
use Rattle.pass_intrinsics.specs.Shapes.{back_label, done_label, pass_label}
use Rattle.pass_intrinsics.specs.declared.cuts.Cut.{Cut}
use Rattle.pass_split.specs.declared.piecing.Piecing.{Piecing}
use Rattle.pass_split.specs.declared.origin.Origin.{Origin}
use Rattle.pass_intrinsics.specs.declared.shape.Part.{Part}
use Rattle.pass_intrinsics.specs.declared.shape.Shape.{Shape}
use Rattle.pass_intrinsics.specs.declared.shape.SuspendPoint.{SuspendPoint}

-- ---- the pieces

-- the next piece, with these instructions
abbrev pub piece : Piecing → List Instr → Terminator → Block
piece p instrs term = record { label = p.label; phis = p.phis; instrs = instrs; term = term }

-- the block that a resume right before its suspend stands in, and nothing follows
abbrev pub pass_block : ℕ → List Instr → Block
pass_block label instrs = record { label = label; phis = []; instrs = instrs; term = Terminator.Ret None }

-- the label of a suspend's stop edge
abbrev pub stop_label : Terminator → ℕ
stop_label (Terminator.Switch arg default cases) = default
stop_label _ = 0

-- the block has ended, with these pieces behind the whole ones
abbrev pub ended_with : Piecing → List Block → ℕ → Piecing
ended_with p pieces next = record { whole = p.whole ++ pieces; label = p.label; phis = []; instrs = []; ended = true; next = next }

-- a piece has ended, and the next one begins
abbrev pub begun_with : Piecing → Block → ℕ → ℕ → Piecing
begun_with p whole label next = record { whole = p.whole ++ whole ∷ []; label = label; phis = []; instrs = []; ended = p.ended; next = next }

abbrev pub pieced : Shape → Part → Piecing → Instr → Terminator → Cut → Piecing
pieced s part p i term Cut.Stays =
    record {
      whole = p.whole;
      label = p.label;
      phis = p.phis;
      instrs = p.instrs ++ lowered s part p.next i;
      ended = p.ended;
      next = p.next + names_taken i;
    }
pieced s part p i term (Cut.Marks label) =
    begun_with p (piece p (p.instrs ++ lowered s part p.next i) (Terminator.Jump label)) label (p.next + names_taken i)
pieced s part p i term Cut.Suspends = ended_with p (piece p p.instrs (Terminator.Jump (stop_label term)) ∷ []) p.next
pieced s part p i term Cut.Returns = ended_with p (piece p p.instrs (Terminator.Ret None) ∷ []) p.next
pieced s part p i term (Cut.Transfers j) =
    ended_with p
    (piece p p.instrs (Terminator.Jump (pass_label s j)) ∷ pass_block (pass_label s j) (lowered s part p.next i) ∷ [])
    (p.next + names_taken i)

abbrev pub is_begin : Instr → Bool
is_begin (Instr.Call result must_tail ty (Callee.Intrinsic Intrinsic.CoroBegin) args) = true
is_begin _ = false

-- a begin in a part that goes on behind a suspend, which has begun
abbrev pub begins_again : Part → Instr → Bool
begins_again part i = if goes_on part then is_begin i else false

-- the block ends before such a begin
abbrev pub stopped : Piecing → Piecing
stopped p = ended_with p (piece p p.instrs Terminator.Unreachable ∷ []) p.next

abbrev pub next_piecing : Shape → Part → Terminator → Piecing → Instr → List Instr → Piecing
next_piecing s part term p i after = if begins_again part i then stopped p else pieced s part p i term (cut_at s part i after)

-- one instruction more, with those behind it
abbrev pub with_instr : Shape → Part → Terminator → Piecing → Instr → List Instr → Piecing
with_instr s part term p i after = if p.ended then p else next_piecing s part term p i after

abbrev pub with_instrs : Shape → Part → Terminator → Piecing → List Instr → Piecing
with_instrs s part term p [] = p
with_instrs s part term p (i ∷ after) = with_instrs s part term (with_instr s part term p i after) after

-- ---- terminators: an edge to the end that doesn't come from a suspend goes through the mark

abbrev pub redirected : Shape → ℕ → ℕ
redirected s label = if label == s.end then done_label s else label

abbrev pub redirected_case : Shape → Case → Case
redirected_case s k = record { arg = k.arg; target = redirected s k.target }

abbrev pub redirected_term : Shape → Terminator → Terminator
redirected_term s (Terminator.Jump label) = Terminator.Jump (redirected s label)
redirected_term s (Terminator.Branch c a b) = Terminator.Branch c (redirected s a) (redirected s b)
redirected_term s (Terminator.Switch arg default cases) = Terminator.Switch arg (redirected s default) (map (redirected_case s) cases)
redirected_term s (Terminator.Ret value) = Terminator.Ret value
redirected_term s Terminator.Unreachable = Terminator.Unreachable

abbrev pub all_pieces : Shape → Piecing → Terminator → List Block
all_pieces s p term = if p.ended then p.whole else p.whole ++ piece p p.instrs (redirected_term s term) ∷ []

-- ---- phis: their labels become those of the pieces from which the edges come

-- the label at which a part goes on behind a suspend
abbrev pub going_on : Part → Option SuspendPoint → Option ℕ
going_on part None = None
going_on Part.Ramp (Some p) = None
going_on Part.GivenRamp (Some p) = None
going_on Part.Resume (Some p) = Some p.resume
going_on Part.Destroy (Some p) = Some p.destroy
going_on Part.Cleanup (Some p) = Some p.destroy

abbrev pub if_same : ℕ → Option ℕ → ℕ → Option ℕ
if_same label None back = None
if_same label (Some target) back = if target == label then Some back else None

-- from where an edge comes to a label
abbrev pub comes_from : Shape → Part → ℕ → ℕ → Option Origin → Option ℕ
comes_from s part label from None = Some from
comes_from s part label from (Some (Origin.Piece l)) = Some l
comes_from s part label from (Some (Origin.Suspend j)) = if_same label (going_on part (slice_get s.suspends j)) (back_label s j)
comes_from s part label from (Some Origin.Nowhere) = None

abbrev pub incoming_from : Incoming → Option ℕ → Option Incoming
incoming_from i None = None
incoming_from i (Some l) = Some (record { value = i.value; from = l })

abbrev pub pieced_incoming : Shape → Part → List Origin → ℕ → Incoming → Option Incoming
pieced_incoming s part origins label i = incoming_from i (comes_from s part label i.from (slice_get origins i.from))

abbrev pub pieced_phi : Shape → Part → List Origin → ℕ → Phi → Phi
pieced_phi s part origins label p =
    record { result = p.result; ty = p.ty; incoming = filter_map (pieced_incoming s part origins label) p.incoming }

-- ---- blocks

abbrev pub first_piecing : Shape → Part → List Origin → ℕ → Block → Piecing
first_piecing s part origins n b =
    record { whole = []; label = b.label; phis = map (pieced_phi s part origins b.label) b.phis; instrs = []; ended = false; next = n }

abbrev pub piecing_of : Shape → Part → List Origin → ℕ → Block → Piecing
piecing_of s part origins n b = with_instrs s part b.term (first_piecing s part origins n b) b.instrs

abbrev pub pieces_of : Shape → Part → List Origin → ℕ → List Block → List Block
pieces_of s part origins n [] = []
pieces_of s part origins n (b ∷ bs) =
    all_pieces s (piecing_of s part origins n b) b.term ++ pieces_of s part origins (piecing_of s part origins n b).next bs

-- the next new name behind them
abbrev pub next_after : Shape → Part → List Origin → ℕ → List Block → ℕ
next_after s part origins n [] = n
next_after s part origins n (b ∷ bs) = next_after s part origins (piecing_of s part origins n b).next bs

-- ---- origins

abbrev pub after_cut : Origin → Cut → Origin
after_cut o Cut.Stays = o
after_cut o (Cut.Marks label) = Origin.Piece label
after_cut o Cut.Suspends = o
after_cut o Cut.Returns = Origin.Nowhere
after_cut o (Cut.Transfers j) = o

abbrev pub is_nowhere : Origin → Bool
is_nowhere Origin.Nowhere = true
is_nowhere _ = false

-- no edge leaves a block that ends before a begin
abbrev pub next_origin : Shape → Part → Origin → Instr → Origin
next_origin s part o i = if begins_again part i then Origin.Nowhere else after_cut o (cut_at s part i [])

abbrev pub origin_after : Shape → Part → Origin → Instr → Origin
origin_after s part o i = if is_nowhere o then o else next_origin s part o i

abbrev pub origin_in : Shape → Part → Origin → List Instr → Origin
origin_in s part o [] = o
origin_in s part o (i ∷ is) = origin_in s part (origin_after s part o i) is

abbrev pub origins_by : Shape → Part → List Origin → List Block → List Origin
origins_by s part table [] = table
origins_by s part table (b ∷ bs) = origins_by s part (slice_set table b.label (origin_in s part (Origin.Piece b.label) b.instrs)) bs

-- the suspends' blocks, from the j-th on
abbrev pub suspend_origins : List Origin → ℕ → List SuspendPoint → List Origin
suspend_origins table j [] = table
suspend_origins table j (p ∷ ps) = suspend_origins (slice_set table p.block (Origin.Suspend j)) (j + 1) ps

-- from where the edges of each label's block come
abbrev pub origins_of : Shape → Part → List Origin → List Block → List Origin
origins_of s part table blocks = suspend_origins (origins_by s part table blocks) 0 s.suspends
