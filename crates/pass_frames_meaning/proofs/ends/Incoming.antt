-- What holds of operands that come to phis, through the passes that build frames.
use Rattle.std.proofs.Common.{ℕ, ◌≤◌, Bool, List, [], ◌∷◌, length, Option, arith}
use Rattle.std.specs.Prelude.{filter, map}
use Rattle.pass_frames_proof.proofs.ir_laws.facts.Members.{each_both, each_map, each_turns}
use Rattle.pass_frames_proof.specs.ir_model.declared.instr.Incoming.{Incoming}
use Rattle.pass_frames_proof.specs.ir_model.declared.instr.Instr.{Instr}
use Rattle.pass_frames_proof.specs.ir_model.declared.instr.Phi.{Phi}
use Rattle.pass_frames_proof.specs.ir_model.declared.module.Block.{Block}
use Rattle.pass_frames_proof.specs.ir_model.declared.module.Module.{Module}
use Rattle.pass_frames_proof.specs.pass_addresses.Placing.{stays, turned_block, without_promise_of}
use Rattle.pass_frames_proof.specs.pass_cells.Cells.{fetched_function, fetches_of}
use Rattle.pass_frames_proof.specs.pass_cells.Written.{after_block as after_written_block, entry_blocks, written_blocks}
use Rattle.pass_frames_proof.specs.pass_cells.declared.plan.Plan.{Plan}
use Rattle.pass_frames_proof.specs.pass_copies.BeginCopies.{after_block as after_copied_block, copied_blocks}
use Rattle.pass_frames_proof.specs.pass_copies.declared.copying.Copying.{Copying}
use Rattle.pass_frames_proof.specs.pass_fetch.Blocks.{fetched_blocks, fetched_incoming, fetched_phis, next_after_block, next_after_phi, next_after_phis, next_after_phis_by}
use Rattle.pass_frames_proof.specs.pass_fetch.Fetching.{fetched_operand, next_after, next_after_all}
use Rattle.pass_frames_proof.specs.pass_fetch.declared.fetch.Fetch.{Fetch}
use Rattle.pass_frames_proof.specs.Places.{Framing, before_labels, copies, edged, fetched, marked, named, plan, unmarked, written}
use Rattle.pass_frames_proof.proofs.pass_proofs.fetch.rules.Ends.{blocks_rise, phis_rise}
use Rattle.pass_frames_proof.proofs.pass_proofs.fetch.rules.Puts.{fetch_rises}
use Rattle.pass_frames_proof.specs.run_laws.changed.Changed.{Each}

-- P holds of each operand that comes to a phi of these blocks, with its label
abbrev pub EachPhi : (Incoming → Type 0) → List Phi → Type 0
EachPhi P ps = Each (λ (p : Phi). Each P p.incoming) ps

abbrev pub EachIncoming : (Incoming → Type 0) → List Block → Type 0
EachIncoming P bs = Each (λ (b : Block). EachPhi P b.phis) bs

module _ (P Q : Incoming → Type 0) where
  pub incoming_turns : ((i : Incoming) → P i → Q i) → (bs : List Block) → EachIncoming P bs → EachIncoming Q bs
  incoming_turns h bs k =
      each_turns (λ (b : Block). EachPhi P b.phis) (λ (b : Block). EachPhi Q b.phis) (λ b z. phis_turn b.phis z) bs k
    where
      phis_turn : (ps : List Phi) → EachPhi P ps → EachPhi Q ps
      phis_turn ps z =
          each_turns (λ (p : Phi). Each P p.incoming) (λ (p : Phi). Each Q p.incoming)
          (λ p y. each_turns P Q h p.incoming y) ps z

  pub incoming_both : (bs : List Block) → EachIncoming P bs → EachIncoming Q bs → EachIncoming (λ i. P i × Q i) bs
  incoming_both [] h k = tt
  incoming_both (b ∷ bs) h k = (phis_both b.phis h.0 k.0, incoming_both bs h.1 k.1)
    where
      phis_both : (ps : List Phi) → EachPhi P ps → EachPhi Q ps → EachPhi (λ i. P i × Q i) ps
      phis_both [] y z = tt
      phis_both (p ∷ ps) y z = (each_both P Q p.incoming y.0 z.0, phis_both ps y.1 z.1)

-- ---- operands that are fetched, from a new name on and up to another

module _ (t : List (Option Fetch)) (low most : ℕ) (P Q : Incoming → Type 0)
    (turn : (n : ℕ) (i : Incoming) → low ≤ n → next_after t n i.value ≤ most → P i
    → Q (record { value = fetched_operand t n i.value; from = i.from })) where
  one_fetched : (is : List Incoming) (n : ℕ) → low ≤ n
      → next_after_all t n (map (λ (i : Incoming). i.value) is) ≤ most → Each P is → Each Q (fetched_incoming t n is)
  one_fetched [] n up fit h = tt
  one_fetched (i ∷ is) n up fit h =
      let here : n ≤ next_after t n i.value = fetch_rises t n (i.value ∷ []) in
      let more : next_after t n i.value
      ≤ next_after_all t (next_after t n i.value) (map (λ (j : Incoming). j.value) is) =
      fetch_rises t (next_after t n i.value) (map (λ (j : Incoming). j.value) is) in (
        turn n i up (omega (arith, more, fit)) h.0,
        one_fetched is (next_after t n i.value) (omega (arith, up, here)) fit h.1,
      )

  phis_fetched : (ps : List Phi) (n : ℕ) → low ≤ n → next_after_phis t n ps ≤ most → EachPhi P ps
      → EachPhi Q (fetched_phis t n ps)
  phis_fetched [] n up fit h = tt
  phis_fetched (p ∷ ps) n up fit h =
      let here : n ≤ next_after_phi t n p = fetch_rises t n (map (λ (j : Incoming). j.value) p.incoming) in
      let more : next_after_phi t n p ≤ next_after_phis t (next_after_phi t n p) ps =
      phis_rise t (next_after_phi t n p) ps in (
        one_fetched p.incoming n up (omega (arith, more, fit)) h.0,
        phis_fetched ps (next_after_phi t n p) (omega (arith, up, here)) fit h.1,
      )

  pub blocks_fetched : (ends : List (List Instr)) (bs : List Block) (m n : ℕ) → low ≤ m
      → next_after_phis_by t m bs ≤ most → EachIncoming P bs → EachIncoming Q (fetched_blocks t ends m n bs)
  blocks_fetched ends [] m n up fit h = tt
  blocks_fetched ends (b ∷ bs) m n up fit h =
      let here : m ≤ next_after_phis t m b.phis = phis_rise t m b.phis in
      let more : next_after_phis t m b.phis ≤ next_after_phis_by t (next_after_phis t m b.phis) bs =
      blocks_rise t (next_after_phis t m b.phis) bs in (
        phis_fetched b.phis m up (omega (arith, more, fit)) h.0,
        blocks_fetched ends bs (next_after_phis t m b.phis) (next_after_block t n b) (omega (arith, up, here)) fit h.1,
      )

-- ---- the other passes leave phis as they are

module _ (Q : Incoming → Type 0) where
  written_stay : (m : Module) (p : Plan) (n : ℕ) (bs : List Block) → EachIncoming Q bs
      → EachIncoming Q (written_blocks m p n bs)
  written_stay m p n [] h = tt
  written_stay m p n (b ∷ bs) h = (h.0, written_stay m p (after_written_block m p n b) bs h.1)

  entry_stays : (m : Module) (p : Plan) (front : List Instr) (n : ℕ) (bs : List Block) → EachIncoming Q bs
      → EachIncoming Q (entry_blocks m p front n bs)
  entry_stays m p front n [] h = tt
  entry_stays m p front n (b ∷ bs) h = (h.0, written_stay m p (after_written_block m p n b) bs h.1)

  copied_stay : (c : Copying) (before : List Bool) (front : List Instr) (n : ℕ) (bs : List Block) → EachIncoming Q bs
      → EachIncoming Q (copied_blocks c before front n bs)
  copied_stay c before front n [] h = tt
  copied_stay c before front n (b ∷ bs) h = (h.0, copied_stay c before [] (after_copied_block c before n b) bs h.1)

  turned_stay : (turned : List Instr → List Instr) (bs : List Block) → EachIncoming Q bs
      → EachIncoming Q (map (turned_block turned) bs)
  turned_stay turned bs h = each_map (λ (b : Block). EachPhi Q b.phis) (turned_block turned) bs h

  pub unmarked_stay : (x : Framing) → EachIncoming Q (fetched x).blocks → EachIncoming Q (unmarked x).blocks
  unmarked_stay x h =
      turned_stay (map without_promise_of) _
      (turned_stay (filter (stays (marked x))) _
      (copied_stay (copies x) (before_labels x) _ _ (written x).blocks
      (entry_stays x.code (plan x) _ _ (fetched x).blocks h)))

-- ---- between the two passes that fetch

pub incoming_loaded : (x : Framing) (most : ℕ) (P Q : Incoming → Type 0)
    → ((n : ℕ) (i : Incoming) → length (named x).names ≤ n → next_after (fetches_of (plan x)) n i.value ≤ most → P i
    → Q (record { value = fetched_operand (fetches_of (plan x)) n i.value; from = i.from }))
    → next_after_phis_by (fetches_of (plan x)) (length (named x).names) (named x).blocks ≤ most
    → EachIncoming P (edged x).blocks → EachIncoming Q (unmarked x).blocks
unfolding fetched_function
incoming_loaded x most P Q turn fit h =
    unmarked_stay Q x
    (blocks_fetched (fetches_of (plan x)) (length (named x).names) most P Q turn _ (edged x).blocks
    (length (named x).names) _
    (omega arith) fit h)
