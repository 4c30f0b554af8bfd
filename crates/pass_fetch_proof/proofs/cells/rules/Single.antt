-- What is asked of each instruction that is put in: allocas, loads, stores, addresses, sums and casts.
use Rattle.std.proofs.Common.{◌≡◌, ℕ, ◌≤◌, Bool, true, false, List, [], ◌∷◌, refl, sym, ap, ◌∙◌, subst}
use Rattle.std.specs.Prelude.{Option, Some, None, not, nat_lt, ◌&&◌, ◌==◌, if◌then◌else◌}
use Rattle.pass_fetch_proof.proofs.fetch.cells.Types.{cell_aligned}
use Rattle.pass_edges_proof.proofs.rule_laws.rules.counted.Types.{cell_known, cell_scalar, cell_shallow, cell_sized, cell_tokenless, is_cell_type, kind_fits}
use Rattle.pass_edges_proof.specs.ir_base.declared.ops.BinOp.{BinOp}
use Rattle.pass_edges_proof.specs.ir_base.declared.ops.CastOp.{CastOp}
use Rattle.pass_edges_proof.proofs.ir_laws.facts.Truth.{itself}
use Rattle.pass_edges_proof.specs.flow_solver.Paths.{IsListed}
use Rattle.pass_edges_proof.specs.ir_parts.Contents.{result_of}
use Rattle.pass_edges_proof.specs.pass_distances.Sums.{on_number}
use Rattle.ir_model.specs.Ty.{Ty, int, ptr}
use Rattle.ir_model.specs.declared.instr.Instr.{Instr}
use Rattle.ir_model.specs.declared.module.Function.{Function}
use Rattle.ir_model.specs.declared.module.Module.{Module}
use Rattle.ir_model.specs.declared.operand.Operand.{Operand}
use Rattle.pass_edges_proof.specs.ir_locals.Tables.{or_first}
use Rattle.pass_edges_proof.specs.rule_types.Depth.{is_shallow}
use Rattle.pass_edges_proof.specs.pass_fetch.Fetching.{value_bytes}
use Rattle.pass_edges_proof.specs.pass_cells.Moves.{cell_alloca, load_from, store_to}
use Rattle.pass_edges_proof.specs.rule_values.Fits.{fits, fits_kind}
use Rattle.pass_edges_proof.specs.rule_values.Kinds.{kind_of, value_kind}
use Rattle.pass_edges_proof.specs.rule_values.declared.kinds.Kind.{Kind}
use Rattle.pass_edges_proof.specs.rule_laws.rules.woven_rules.Blocks.{IsNew, IsPutIn}
use Rattle.pass_edges_proof.specs.rule_laws.rules.woven_rules.Weaving.{IsKnown, Weaving, kinds_with}

-- what an instruction makes of new names is told by the weaving
abbrev pub IsTold : Weaving → Instr → Type 0
IsTold w i = (n : ℕ) → result_of i ≡ Some n → w.first ≤ n → IsNew w i n

-- what is known of a weaving: new names aren't the function's, nothing goes, and the cells are addresses
pub record IsSound (w : Weaving) (f : Function) : Type 0 where
  pub old : (n : ℕ) → w.first ≤ n → value_kind f n ≡ None
  pub goes : (n : ℕ) → w.goes n ≡ false
  pub low : (n : ℕ) → IsListed n w.fronts → w.first ≤ n
  pub addresses : (n : ℕ) → IsListed n w.fronts → w.kinds n ≡ Some Kind.Ptr

module _ (w : Weaving) (f : Function) (ok : IsSound w f) where
  -- ---- kinds

  pub new_kind : (n : ℕ) (kind : Kind) → w.first ≤ n → w.kinds n ≡ Some kind → kinds_with w f n ≡ Some kind
  new_kind n kind low e = ap (λ (o : Option Kind). or_first o (w.kinds n)) (ok.old n low) ∙ e

  pub old_kind : (v : ℕ) (kind : Kind) → value_kind f v ≡ Some kind → kinds_with w f v ≡ Some kind
  old_kind v kind e = ap (λ (o : Option Kind). or_first o (w.kinds v)) e

  pub cell_kind : (c : ℕ) → IsListed c w.fronts → kinds_with w f c ≡ Some Kind.Ptr
  cell_kind c h = new_kind c Kind.Ptr (ok.low c h) (ok.addresses c h)

  pub own_kind : (n : ℕ) (kind : Kind) → (if n == n then Some kind else None) ≡ Some kind
  own_kind n kind = ap (λ (b : Bool). if b then Some kind else None) (itself n)

  pub load_kind : (n : ℕ) (t : Ty) (c : ℕ) → w.first ≤ n → IsTold w (load_from n t c) → w.kinds n ≡ Some (kind_of t)
  load_kind n t c low told = sym (told n refl low).kind ∙ own_kind n (kind_of t)

module _ (w : Weaving) (m : Module) (f : Function) (block : ℕ) (made : List ℕ) where
  told_result : (i : Instr) (n : ℕ) → w.first ≤ n → IsTold w i → (k : ℕ) → Some n ≡ Some k → result_of i ≡ Some k → IsNew w i k
  told_result i n low told k e r = let same : n ≡ k = cc in told k r (subst (λ (x : ℕ). w.first ≤ x) same low)

  -- ---- cells

  pub alloca_put : (n : ℕ) (t : Ty) → (block == 0) ≡ true → is_cell_type t ≡ true → w.first ≤ n → IsTold w (cell_alloca n t) → IsPutIn w m f block made (cell_alloca n t)
  alloca_put n t entry h low told =
      record {
        result = λ k e. told_result (cell_alloca n t) n low told k e e;
        operands = tt;
        stands = entry;
        fits = cell_tokenless t h;
        types = λ j. cell_known m t h j && true;
        depths = λ j. cell_shallow m t h j && true;
        extents = λ p j. not (cell_sized w.stage m t h j && cell_aligned t h j);
        calls = λ p. refl;
      }

  pub load_put : (n : ℕ) (t : Ty) (c : ℕ) → is_cell_type t ≡ true → IsKnown w f block made (Operand.Local c) → kinds_with w f c ≡ Some Kind.Ptr → w.first ≤ n → IsTold w (load_from n t c) → IsPutIn w m f block made (load_from n t c)
  load_put n t c h known kind low told =
      record {
        result = λ k e. told_result (load_from n t c) n low told k e e;
        operands = (known, tt);
        stands = refl;
        fits = λ j. cell_scalar t h j && fits_kind (kind j) ptr;
        types = λ j. cell_known m t h j && true;
        depths = λ j. cell_shallow m t h j && true;
        extents = λ p j. not (cell_aligned t h j);
        calls = λ p. refl;
      }

  -- what is stored fits the type
  pub store_of : (t : Ty) (x : Operand) (c : ℕ) → is_cell_type t ≡ true → IsKnown w f block made x → fits (kinds_with w f) t x ≡ true → IsKnown w f block made (Operand.Local c) → kinds_with w f c ≡ Some Kind.Ptr → IsPutIn w m f block made (Instr.Store (record { ty = t; value = x }) (Operand.Local c) (value_bytes t))
  store_of t x c h value fit known address =
      record {
        result = λ k e. absurd (cc);
        operands = (value, (known, tt));
        stands = refl;
        fits = λ j. (cell_scalar t h j && fit j) && fits_kind (address j) ptr;
        types = λ j. cell_known m t h j && true;
        depths = λ j. cell_shallow m t h j && true;
        extents = λ p j. not (cell_aligned t h j);
        calls = λ p. refl;
      }

  pub store_put : (t : Ty) (v c : ℕ) → is_cell_type t ≡ true → IsKnown w f block made (Operand.Local v) → kinds_with w f v ≡ Some (kind_of t) → IsKnown w f block made (Operand.Local c) → kinds_with w f c ≡ Some Kind.Ptr → IsPutIn w m f block made (store_to t v c)
  store_put t v c h value kind known address = store_of t (Operand.Local v) c h value ((λ i. fits_kind (kind i) t) ∙ kind_fits t h) known address

  -- ---- addresses and numbers

  pub address_put : (n base distance : ℕ) → IsKnown w f block made (Operand.Local base) → kinds_with w f base ≡ Some Kind.Ptr → IsKnown w f block made (Operand.Local distance) → kinds_with w f distance ≡ Some (Kind.Int 64) → w.first ≤ n → IsTold w (Instr.Gep n false (int 8) (Operand.Local base) (record { ty = int 64; value = Operand.Local distance } ∷ [])) → IsPutIn w m f block made (Instr.Gep n false (int 8) (Operand.Local base) (record { ty = int 64; value = Operand.Local distance } ∷ []))
  unfolding is_shallow
  address_put n base distance known kind far number low told =
      record {
        result = λ k e. told_result (Instr.Gep n false (int 8) (Operand.Local base) (record { ty = int 64; value = Operand.Local distance } ∷ [])) n low told k e e;
        operands = (known, (far, tt));
        stands = refl;
        fits = λ j. fits_kind (kind j) ptr && ((fits_kind (number j) (int 64) && true) && true);
        types = refl;
        depths = refl;
        extents = λ p. refl;
        calls = λ p. refl;
      }

  pub number_put : (n : ℕ) (op : BinOp) (x y : Operand) → IsKnown w f block made x → fits (kinds_with w f) (int 64) x ≡ true → IsKnown w f block made y → fits (kinds_with w f) (int 64) y ≡ true → w.first ≤ n → IsTold w (on_number n op x y) → IsPutIn w m f block made (on_number n op x y)
  unfolding is_shallow
  number_put n op x y known first other second low told =
      record {
        result = λ k e. told_result (on_number n op x y) n low told k e e;
        operands = (known, (other, tt));
        stands = refl;
        fits = λ j. first j && second j;
        types = refl;
        depths = refl;
        extents = λ p. refl;
        calls = λ p. refl;
      }

  pub widening_put : (n v : ℕ) (x : Operand) → nat_lt v 64 ≡ true → IsKnown w f block made x → fits (kinds_with w f) (int v) x ≡ true → w.first ≤ n → IsTold w (Instr.Cast n CastOp.Sext false (record { ty = int v; value = x }) (int 64)) → IsPutIn w m f block made (Instr.Cast n CastOp.Sext false (record { ty = int v; value = x }) (int 64))
  unfolding is_shallow
  widening_put n v x less known fit low told =
      record {
        result = λ k e. told_result (Instr.Cast n CastOp.Sext false (record { ty = int v; value = x }) (int 64)) n low told k e e;
        operands = (known, tt);
        stands = refl;
        fits = λ j. less j && fit j;
        types = refl;
        depths = refl;
        extents = λ p. refl;
        calls = λ p. refl;
      }
