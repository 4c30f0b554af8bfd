-- The blocks of a function whose crossing values are kept in cells: what stands for each, where values are saved and loaded again.
use Rattle.std.proofs.Common.{◌≡◌, ◌⊎◌, inl, inr, ⊎_elim, ℕ, zero, suc, ◌+◌, ◌<◌, ◌≤◌, Bool, true, List, [], ◌∷◌, length, refl, sym, ap, ◌∙◌, arith}
use Rattle.std.specs.Prelude.{None, Option, Some, replicate, slice_get, slice_set}
use Rattle.pass_edges_proof.specs.rule_laws.frames.begin_order.Behind.{LeadsAgain}
use Rattle.pass_fetch_proof.proofs.cells.rules.Counts.{phis_rise}
use Rattle.pass_fetch_proof.proofs.cells.rules.Totals.{block_rise, written_rise}
use Rattle.pass_edges_proof.proofs.ir_laws.facts.Lists.{set_other}
use Rattle.pass_edges_proof.specs.flow_solver.Paths.{IsListed}
use Rattle.pass_edges_proof.specs.pass_intrinsics.Shapes.{suspends_of}
use Rattle.pass_edges_proof.specs.pass_intrinsics.declared.shape.SuspendPoint.{SuspendPoint}
use Rattle.ir_model.specs.Ty.{Ty}
use Rattle.ir_model.specs.declared.instr.Instr.{Instr}
use Rattle.ir_model.specs.declared.module.Block.{Block}
use Rattle.ir_model.specs.declared.module.Function.{Function}
use Rattle.ir_model.specs.declared.module.Module.{Module}
use Rattle.ir_model.specs.declared.operand.Arg.{Arg}
use Rattle.ir_model.specs.declared.operand.Callee.{Callee}
use Rattle.ir_model.specs.declared.operand.Intrinsic.{Intrinsic}
use Rattle.ir_model.specs.declared.operand.Operand.{Operand}
use Rattle.pass_edges_proof.specs.ir_laws.facts.replaced.Splittable.{asks_begin}
use Rattle.pass_edges_proof.specs.pass_fetch.Blocks.{fetched_block, fetched_blocks, next_after_block, next_after_phis}
use Rattle.pass_edges_proof.specs.pass_fetch.Fetching.{callee_by, fetch_of, fetched_args, next_after}
use Rattle.pass_edges_proof.specs.pass_fetch.Instrs.{with_fetched}
use Rattle.pass_edges_proof.specs.pass_fetch.declared.fetch.Fetch.{Fetch}
use Rattle.pass_edges_proof.specs.pass_cells.Kept.{entry, joined}
use Rattle.pass_edges_proof.specs.pass_cells.Plan.{returns_of, with_returns}
use Rattle.pass_edges_proof.specs.pass_cells.Written.{after_block, entry_blocks, save_row, written_block, written_blocks}
use Rattle.pass_edges_proof.specs.pass_cells.declared.plan.Plan.{Plan}
use Rattle.pass_edges_proof.proofs.ir_laws.facts.Truth.{is_number}

-- ---- saves

-- where values are saved stands a save, which asks for begin
pub row_asks : (p : Plan) (i : Instr) → (save_row p i ≡ []) ⊎ (asks_begin i ≡ true)
row_asks p (Instr.Call (Some r) must_tail ty (Callee.Intrinsic Intrinsic.CoroSave) args) = inr refl
row_asks p _ = inl refl

local_asks : (n v : ℕ) (o : Option Fetch) (r : Option ℕ) (must_tail : Bool) (ty : Option Ty) (args : List Arg) → asks_begin (Instr.Call r must_tail ty (callee_by n o (Callee.Local v)) args) ≡ true → ⊥
local_asks n v None r must_tail ty args e = absurd (cc)
local_asks n v (Some fetch) r must_tail ty args e = absurd (cc)

pub same_asks : (t : List (Option Fetch)) (n : ℕ) (i : Instr) → asks_begin (with_fetched t n i) ≡ true → asks_begin i ≡ true
same_asks t n (Instr.Call r must_tail ty (Callee.Intrinsic c) args) e = e
same_asks t n (Instr.Call r must_tail ty (Callee.Named c) args) e = absurd (cc)
same_asks t n (Instr.Call r must_tail ty (Callee.Allocator c) args) e = absurd (cc)
same_asks t n (Instr.Call r must_tail ty (Callee.Local v) args) e = absurd (local_asks n v (fetch_of t (Operand.Local v)) r must_tail ty (fetched_args t (next_after t n (Operand.Local v)) args) e)
same_asks t n _ e = absurd (cc)

-- ---- labels behind which values are loaded again

returns_back : (known : List (Option ℕ)) (j : ℕ) (ss : List SuspendPoint) (l k : ℕ) → entry (with_returns known j ss) l ≡ Some k → (entry known l ≡ Some k) ⊎ ((s : SuspendPoint) × (IsListed s ss × ((s.resume ≡ l) ⊎ (s.destroy ≡ l))))
returns_back known j [] l k e = inl e
returns_back known j (s ∷ ss) l k e =
    ⊎_elim
    (λ h. ⊎_elim
    (λ d. inr (s, (inl refl, inr d))) (λ other. ⊎_elim (λ d. inr (s, (inl refl, inl d))) (λ last. inl (sym (ap joined (set_other known s.resume l (Some j) last)) ∙ sym (ap joined (set_other (slice_set known s.resume (Some j)) s.destroy l (Some j) other)) ∙ h)) (is_number s.resume l))
    (is_number s.destroy l))
    (λ x. inr (x.0, (inr x.1.0, x.1.1)))
    (returns_back (slice_set (slice_set known s.resume (Some j)) s.destroy (Some j)) (j + 1) ss l k e)

none_told : (n l : ℕ) → entry (replicate n None) l ≡ None
none_told zero l = refl
none_told (suc n) zero = refl
none_told (suc n) (suc l) = none_told n l

pub returns_lead : (f : Function) (l k : ℕ) → entry (returns_of (length f.names) (suspends_of f)) l ≡ Some k → LeadsAgain f l
returns_lead f l k e =
    ⊎_elim
    (λ h. let t : None ≡ Some k = sym (none_told (length f.names) l) ∙ h in absurd (cc)) (λ x. record { suspend = x.0; listed = x.1.0; leads = x.1.1 })
    (returns_back (replicate (length f.names) None) 0 (suspends_of f) l k e)

-- ---- blocks of the result

module _ (m : Module) (p : Plan) (t : List (Option Fetch)) (rows : List (List Instr)) (base : ℕ) where
  -- the block of the result is one of the function's, fetched and written
  pub record IsCelled (start : List Instr) (bs : List Block) (at : ℕ) (d : Block) : Type 0 where
    pub block : Block
    pub front : List Instr
    pub phi : ℕ
    pub first : ℕ
    pub kept : ℕ
    pub there : slice_get bs at ≡ Some block
    pub fronts : (front ≡ []) ⊎ (front ≡ start)
    pub phi_low : base ≤ phi
    pub use_low : base ≤ first
    pub kept_low : base ≤ kept
    pub same : d ≡ written_block m p front kept (fetched_block t rows phi first block)

  cell_behind : (start : List Instr) (b : Block) (bs : List Block) (at : ℕ) (d : Block) → IsCelled start bs at d → IsCelled start (b ∷ bs) (suc at) d
  cell_behind start b bs at d x = record { block = x.block; front = x.front; phi = x.phi; first = x.first; kept = x.kept; there = x.there; fronts = x.fronts; phi_low = x.phi_low; use_low = x.use_low; kept_low = x.kept_low; same = x.same }

  later_there : (start : List Instr) (j n k : ℕ) (bs : List Block) (at : ℕ) (d : Block) → base ≤ j → base ≤ n → base ≤ k → slice_get (written_blocks m p k (fetched_blocks t rows j n bs)) at ≡ Some d → IsCelled start bs at d
  later_there start j n k [] at d low1 low2 low3 e = absurd (cc)
  later_there start j n k (b ∷ bs) zero d low1 low2 low3 e =
      let same : written_block m p [] k (fetched_block t rows j n b) ≡ d = cc in
      record { block = b; front = []; phi = j; first = n; kept = k; there = refl; fronts = inl refl; phi_low = low1; use_low = low2; kept_low = low3; same = sym same }
  later_there start j n k (b ∷ bs) (suc at) d low1 low2 low3 e =
      let rise1 = phis_rise 0 t j b.phis in
      let rise2 = block_rise 0 t rows n b in
      let rise3 = written_rise 0 m p k (fetched_block t rows j n b) in
      cell_behind start b bs at d (later_there start (next_after_phis t j b.phis) (next_after_block t n b) (after_block m p k (fetched_block t rows j n b)) bs at d (omega (arith, low1, rise1)) (omega (arith, low2, rise2)) (omega (arith, low3, rise3)) e)

  pub entry_there : (start : List Instr) (j n k : ℕ) (bs : List Block) (at : ℕ) (d : Block) → base ≤ j → base ≤ n → base ≤ k → slice_get (entry_blocks m p start k (fetched_blocks t rows j n bs)) at ≡ Some d → IsCelled start bs at d
  entry_there start j n k [] at d low1 low2 low3 e = absurd (cc)
  entry_there start j n k (b ∷ bs) zero d low1 low2 low3 e =
      let same : written_block m p start k (fetched_block t rows j n b) ≡ d = cc in
      record { block = b; front = start; phi = j; first = n; kept = k; there = refl; fronts = inr refl; phi_low = low1; use_low = low2; kept_low = low3; same = sym same }
  entry_there start j n k (b ∷ bs) (suc at) d low1 low2 low3 e =
      let rise1 = phis_rise 0 t j b.phis in
      let rise2 = block_rise 0 t rows n b in
      let rise3 = written_rise 0 m p k (fetched_block t rows j n b) in
      cell_behind start b bs at d (later_there start (next_after_phis t j b.phis) (next_after_block t n b) (after_block m p k (fetched_block t rows j n b)) bs at d (omega (arith, low1, rise1)) (omega (arith, low2, rise2)) (omega (arith, low3, rise3)) e)

-- an element at each position of a list
pub there_is : {A : Type 0} (xs : List A) (n : ℕ) → n < length xs → (x : A) × (slice_get xs n ≡ Some x)
there_is [] n low = absurd (omega arith)
there_is (x ∷ xs) zero low = (x, refl)
there_is (x ∷ xs) (suc n) low = there_is xs n (omega arith)

pub first_of : (bs : List Block) → (bs ≡ [] → ⊥) → (b : Block) × ((rest : List Block) × (bs ≡ b ∷ rest))
first_of [] h = absurd (h refl)
first_of (b ∷ bs) h = (b, (bs, refl))
