-- Phis whose operands are loaded where they are kept, and then have addresses made where they lie in the frame: for
-- any
-- two tables.
use Rattle.std.proofs.Common.{◌≡◌, ℕ, zero, suc, ◌≤◌, Bool, true, false, List, [], ◌∷◌, length, refl, sym, ap, ◌∙◌, arith}
use Rattle.std.specs.Prelude.{None, Option, Some, map, slice_get, if◌then◌else◌, ◌==◌}
use Rattle.pass_proofs.proofs.ir_laws.facts.Truth.{equal_numbers}
use Rattle.pass_proofs.specs.ir_model.Ty.{Ty}
use Rattle.pass_proofs.specs.ir_model.declared.instr.Incoming.{Incoming}
use Rattle.pass_proofs.specs.ir_model.declared.instr.Instr.{Instr}
use Rattle.pass_proofs.specs.ir_model.declared.instr.Phi.{Phi}
use Rattle.pass_proofs.specs.ir_model.declared.module.Block.{Block}
use Rattle.pass_proofs.specs.ir_model.declared.module.Function.{Function}
use Rattle.pass_proofs.specs.ir_model.declared.operand.Operand.{Operand}
use Rattle.pass_proofs.specs.pass_fetch.Blocks.{fetched_blocks, fetched_incoming, fetched_phis, next_after_block, next_after_phi, next_after_phis, next_after_phis_by, with_fetches}
use Rattle.pass_proofs.specs.pass_fetch.Fetching.{fetch_of, fetched_operand, next_after, operand_by}
use Rattle.pass_proofs.specs.pass_fetch.declared.fetch.Fetch.{Fetch}
use Rattle.pass_frames_code.proofs.phis.Values.{phis_seen}
use Rattle.pass_frames_code.specs.Fetched.{seen_by, seen_of}
use Rattle.pass_frames_code.specs.Passes.{phi_ends}
use Rattle.pass_frames_code.specs.Phis.{AreBlocksSeen, AreIncomingSeen, ArePhisSeen, seen_phis}
use Rattle.pass_frames_code.specs.Ends.{IsPhiTwice, phis_twice}
use Rattle.pass_frames_code.specs.Led.{seen_twice, twice_by}
use Rattle.pass_frames_code.specs.Edges.{ArePairs}
use Rattle.pass_proofs.specs.run_laws.changed.Changed.{Each}
use Rattle.pass_proofs.specs.run_laws.memory.Pointers.{Home}
use Rattle.pass_proofs.proofs.fetch.rules.Ends.{phis_rise}
use Rattle.pass_proofs.proofs.fetch.rules.Puts.{fetch_rises}
use Rattle.pass_proofs.specs.run_memory.declared.pointer.Value.{Value}
use Rattle.pass_proofs.specs.run_step.Step.{Context, Work, incoming_from, phi_values, phis_of, value_at}

module _ (t u : List (Option Fetch)) (far : ℕ) (new : (n : ℕ) → far ≤ n → fetch_of u (Operand.Local n) ≡ None)
    (given reached : ℕ → Value) (c : Context) (w y : Work) (label : ℕ) where
  abbrev Later : Ty → Operand → Value
  Later ty a = seen_of u reached c y ty a

  abbrev Both : Ty → Operand → Value
  Both ty a = seen_twice t u given reached c y ty a

  -- what is loaded has a new name, which the second table doesn't have
  operand_twice : (n : ℕ) (ty : Ty) (a : Operand) (o : Option Fetch) → far ≤ n
      → value_at c y ty (operand_by n o a) ≡ seen_by given c w ty a o
      → Later ty (operand_by n o a) ≡ twice_by u given reached c y ty a o
  operand_twice n ty a None low h = refl
  operand_twice n ty a (Some f) low h = ap (seen_by reached c y ty (Operand.Local n)) (new n low) ∙ h

  incoming_twice : (js : List Incoming) (n : ℕ) (ty : Ty) → far ≤ n → AreIncomingSeen t given c w y label n js
      → Later ty (incoming_from (fetched_incoming t n js) label) ≡ Both ty (incoming_from js label)
  incoming_twice [] n ty low h = refl
  incoming_twice (j ∷ js) n ty low h =
      let up : n ≤ next_after t n j.value = fetch_rises t n (j.value ∷ []) in
      on (j.from == label) refl (incoming_twice js (next_after t n j.value) ty (omega (arith, low, up)) h.1)
    where
      on : (b : Bool) → (j.from == label) ≡ b
          → Later ty (incoming_from (fetched_incoming t (next_after t n j.value) js) label)
          ≡ Both ty (incoming_from js label)
          → Later ty
          (if b then fetched_operand t n j.value
          else incoming_from (fetched_incoming t (next_after t n j.value) js) label)
          ≡ Both ty (if b then j.value else incoming_from js label)
      on true e more = operand_twice n ty j.value (fetch_of t j.value) low (h.0 (equal_numbers j.from label e) ty)
      on false e more = more

  all_twice : (ps : List Phi) (n : ℕ) → far ≤ n → ArePhisSeen t given c w y label n ps
      → seen_phis u reached c y label (fetched_phis t n ps) ≡ phis_twice t u given reached c y label ps
  all_twice [] n low h = refl
  all_twice (p ∷ ps) n low h =
      let up : n ≤ next_after_phi t n p = fetch_rises t n (map (λ (i : Incoming). i.value) p.incoming) in
      λ i. (p.result, incoming_twice p.incoming n p.ty low h.0 i)
      ∷ all_twice ps (next_after_phi t n p) (omega (arith, low, up)) h.1 i

  blocks_twice : (ends : List (List Instr)) (bs : List Block) (m n k : ℕ) (b d : Block) → far ≤ m
      → AreBlocksSeen t given c w y label m bs → slice_get bs k ≡ Some b
      → slice_get (fetched_blocks t ends m n bs) k ≡ Some d
      → seen_phis u reached c y label d.phis ≡ phis_twice t u given reached c y label b.phis
  blocks_twice ends [] m n k b d low h e f = absurd (cc)
  blocks_twice ends (q ∷ bs) m n zero b d low h e f =
      let one : q.phis ≡ b.phis = ap phis_of e in
      let other : fetched_phis t m q.phis ≡ d.phis = ap phis_of f in
      ap (seen_phis u reached c y label) (sym other) ∙ all_twice q.phis m low h.0
      ∙ ap (phis_twice t u given reached c y label) one
  blocks_twice ends (q ∷ bs) m n (suc k) b d low h e f =
      let up : m ≤ next_after_phis t m q.phis = phis_rise t m q.phis in
      blocks_twice ends bs (next_after_phis t m q.phis) (next_after_block t n q) k b d (omega (arith, low, up)) h.1 e f

  pub function_twice : (f : Function) (word : List ℕ) (k : ℕ) (b d : Block) → far ≤ length f.names
      → AreBlocksSeen t given c w y label (length f.names) f.blocks → slice_get f.blocks k ≡ Some b
      → slice_get (with_fetches f t word).blocks k ≡ Some d
      → seen_phis u reached c y label d.phis ≡ phis_twice t u given reached c y label b.phis
  function_twice f word k b d low h e there =
      blocks_twice (phi_ends f t) f.blocks (length f.names) (next_after_phis_by t (length f.names) f.blocks) k b d low
      h e there

-- what a phi of the form with both gets
pub phis_get_twice : (t u : List (Option Fetch)) (far : ℕ) → ((n : ℕ) → far ≤ n → fetch_of u (Operand.Local n) ≡ None)
    → (given reached : ℕ → Value) (c : Context) (w y z : Work) (label : ℕ) (f h : Function) (word other : List ℕ)
    (k : ℕ)
    (b d e q : Block) → far ≤ length f.names → AreBlocksSeen t given c w y label (length f.names) f.blocks
    → AreBlocksSeen u reached c y z label (length h.names) h.blocks → slice_get f.blocks k ≡ Some b
    → slice_get (with_fetches f t word).blocks k ≡ Some d → slice_get h.blocks k ≡ Some e → e.phis ≡ d.phis
    → slice_get (with_fetches h u other).blocks k ≡ Some q
    → phi_values c.code z.values label q.phis ≡ phis_twice t u given reached c y label b.phis
phis_get_twice t u far new given reached c w y z label f h word other k b d e q low one two here there between same
    last =
    phis_seen u reached c h other label k y z e q two between last
    ∙ ap (seen_phis u reached c y label) same
    ∙ function_twice t u far new given reached c w y label f word k b d low one here there

-- and it stands for what it gets in the source
pub pairs_twice : (homes : List Home) (t u : List (Option Fetch)) (given reached : ℕ → Value) (c d : Context)
    (w y : Work) (label bound : ℕ) (ps : List Phi)
    → Each (IsPhiTwice homes t u given reached c d w y label bound) ps
    → ArePairs homes bound (phi_values c.code w.values label ps) (phis_twice t u given reached d y label ps)
pairs_twice homes t u given reached c d w y label bound [] h = tt
pairs_twice homes t u given reached c d w y label bound (p ∷ ps) h =
    ((refl, h.0.low, h.0.stands p.ty), pairs_twice homes t u given reached c d w y label bound ps h.1)
