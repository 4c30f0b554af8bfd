-- Suspends that are noted from the last on.
use Rattle.std.proofs.Common.{◌≡◌, ℕ, zero, suc, ◌+◌, ◌-◌, ◌<◌, ◌≤◌, Bool, true, false, List, [], ◌∷◌, ◌++◌, drop, length, get_or, refl, ap, sym, ◌∙◌, arith, Option, Some, None, inl, inr}
use Rattle.std.specs.Prelude.{replicate, slice_get, slice_set, if◌then◌else◌, ◌==◌}
use Rattle.std.specs.Option.{option_map_or}
use Rattle.std.proofs.lemmas.Bool.{eq-eqb, eqb-true, false≢true}
use Rattle.ir_model.specs.declared.instr.Instr.{Instr}
use Rattle.ir_model.specs.declared.module.Block.{Block}
use Rattle.ir_paths.specs.Windows.{is_suspend_of, points_from, points_in}
use Rattle.ir_paths.specs.declared.point.Point.{Point}
use Rattle.run_step.proofs.LabelPositions.{slice_get-replicate, slice_get-set}
use Rattle.run_step.proofs.Lists.{drop-end, drop-next}
use Rattle.run_source_tables.specs.Suspends.{HasFirst, noted}
use Rattle.run_source_tables.proofs.Walks.{blocks-at}

if-point : (b : Bool) (p : Point) (ps rest : List Point) → slice_get ((if b then p ∷ ps else ps) ++ rest) 0 ≡ (if b then Some p else slice_get (ps ++ rest) 0)
if-point true p ps rest = refl
if-point false p ps rest = refl

first-split : (test : Instr → Bool) (block at : ℕ) (instrs : List Instr) (x : Instr) (rest : List Point) → 0 < at → at ≤ length instrs → x ≡ get_or instrs (at - 1) x → slice_get (points_from test block (at - 1) (drop (at - 1) instrs) ++ rest) 0 ≡ (if test x then Some (record { block = block; at = at - 1 }) else slice_get (points_from test block at (drop at instrs) ++ rest) 0)
first-split test block at instrs x rest lt le e =
    let one : at - 1 + 1 ≡ at = omega arith in
    let next : suc (at - 1) ≡ at = omega arith in
    ap (λ (l : List Instr). slice_get (points_from test block (at - 1) l ++ rest) 0) (drop-next instrs (at - 1) x (omega arith) e)
    ∙ if-point (test x) (record { block = block; at = at - 1 }) (points_from test block (suc (at - 1)) (drop (at - 1 + 1) instrs)) rest
    ∙ ap (λ n. if test x then Some (record { block = block; at = at - 1 }) else slice_get (points_from test block n (drop (at - 1 + 1) instrs) ++ rest) 0) next
    ∙ ap (λ n. if test x then Some (record { block = block; at = at - 1 }) else slice_get (points_from test block at (drop n instrs) ++ rest) 0) one

chosen : (b : Bool) (p : Point) (o : Option Point) → b ≡ true → Some p ≡ (if b then Some p else o)
chosen true p o e = refl
chosen false p o e = absurd (false≢true e)

passed : (b : Bool) (n m : ℕ) (p : Point) (o : Option Point) → (n == m) ≡ b → (n ≡ m → ⊥) → o ≡ (if b then Some p else o)
passed true n m p o e ne = absurd (ne (eqb-true n m e))
passed false n m p o e ne = refl

noted-by : (token : Option ℕ) (table : List (Option Point)) (p : Point) (test : ℕ → Bool) (old : ℕ → Option Point) → ((n : ℕ) → test n ≡ option_map_or (λ m. n == m) token false) → ((n : ℕ) (o : Option Point) → slice_get table n ≡ Some o → o ≡ old n) → (n : ℕ) (o : Option Point) → slice_get (noted table token p) n ≡ Some o → o ≡ (if test n then Some p else old n)
noted-by None table p test old is h n o g = h n o g ∙ ap (λ b. if b then Some p else old n) (sym (is n))
noted-by (Some m) table p test old is h n o g =
    elim (slice_get-set table m n (Some p) o g) [
      | inl q ↦ q.1 ∙ chosen (n == m) p (old n) (eq-eqb n m q.0) ∙ ap (λ b. if b then Some p else old n) (sym (is n))
      | inr q ↦ h n o q.0 ∙ passed (n == m) n m p (old n) refl q.1 ∙ ap (λ b. if b then Some p else old n) (sym (is n))
    ]

abbrev pub NotedFrom : ℕ → List Instr → List (Option Point) → ℕ → List (Option Point) → Type 0
NotedFrom block instrs first at table = (rest : ℕ → List Point) → HasFirst first rest → HasFirst table (λ n. points_from (is_suspend_of (Some n)) block at (drop at instrs) ++ rest n)

pub noted-first : (block : ℕ) (instrs : List Instr) (table : List (Option Point)) → NotedFrom block instrs table (length instrs) table
noted-first block instrs table rest h n o g = h n o g ∙ ap (λ (l : List Instr). slice_get (points_from (is_suspend_of (Some n)) block (length instrs) l ++ rest n) 0) (sym (drop-end instrs (length instrs) refl))

pub noted-next : (block : ℕ) (instrs : List Instr) (first table next : List (Option Point)) (at : ℕ) (x : Instr) (token : Option ℕ) → 0 < at → at ≤ length instrs → x ≡ get_or instrs (at - 1) x → ((n : ℕ) → is_suspend_of (Some n) x ≡ option_map_or (λ m. n == m) token false) → next ≡ noted table token (record { block = block; at = at - 1 }) → NotedFrom block instrs first at table → NotedFrom block instrs first (at - 1) next
noted-next block instrs first table next at x token lt le e is new h rest r n o g =
    let p : Point = record { block = block; at = at - 1 } in
    let old : ℕ → Option Point = λ n. slice_get (points_from (is_suspend_of (Some n)) block at (drop at instrs) ++ rest n) 0 in
    noted-by token table p (λ n. is_suspend_of (Some n) x) old is (h rest r) n o (ap (λ (l : List (Option Point)). slice_get l n) (sym new) ∙ g)
    ∙ sym (first-split (is_suspend_of (Some n)) block at instrs x (rest n) lt le e)

pub noted-all : (block : ℕ) (instrs : List Instr) (first table : List (Option Point)) (at : ℕ) → at ≡ 0 → NotedFrom block instrs first at table → (rest : ℕ → List Point) → HasFirst first rest → HasFirst table (λ n. points_from (is_suspend_of (Some n)) block 0 instrs ++ rest n)
noted-all block instrs first table at e h rest r n o g = h rest r n o g ∙ ap (λ k. slice_get (points_from (is_suspend_of (Some n)) block k (drop k instrs) ++ rest n) 0) e

abbrev pub HasFrom : List Block → ℕ → List (Option Point) → Type 0
HasFrom blocks block table = HasFirst table (λ n. points_in (is_suspend_of (Some n)) block (drop block blocks))

pub none-noted : (blocks : List Block) (count : ℕ) (table : List (Option Point)) → table ≡ replicate count None → HasFrom blocks (length blocks) table
none-noted blocks count table e n o g =
    slice_get-replicate count n None o (ap (λ (l : List (Option Point)). slice_get l n) (sym e) ∙ g)
    ∙ ap (λ (l : List Block). slice_get (points_in (is_suspend_of (Some n)) (length blocks) l) 0) (sym (drop-end blocks (length blocks) refl))

pub block-noted : (blocks : List Block) (block : ℕ) (table next : List (Option Point)) (x : Block) (instrs : List Instr) → 0 < block → block ≤ length blocks → x ≡ get_or blocks (block - 1) x → instrs ≡ x.instrs → ((rest : ℕ → List Point) → HasFirst table rest → HasFirst next (λ n. points_from (is_suspend_of (Some n)) (block - 1) 0 instrs ++ rest n)) → HasFrom blocks block table → HasFrom blocks (block - 1) next
block-noted blocks block table next x instrs lt le e is new h n o g =
    let test : Instr → Bool = is_suspend_of (Some n) in
    let one : block - 1 + 1 ≡ block = omega arith in
    new (λ m. points_in (is_suspend_of (Some m)) block (drop block blocks)) h n o g
    ∙ ap (λ (l : List Instr). slice_get (points_from test (block - 1) 0 l ++ points_in test block (drop block blocks)) 0) is
    ∙ ap (λ m. slice_get (points_from test (block - 1) 0 x.instrs ++ points_in test m (drop m blocks)) 0) (sym one)
    ∙ ap (λ l. slice_get l 0) (sym (blocks-at test blocks (block - 1) x (omega arith) e))
