-- Which instructions the passes that build frames leave as they are.
use Rattle.std.proofs.Common.{◌≡◌, ℕ, Bool, true, false, List, [], ◌∷◌, ◌++◌, refl, ap, ◌∙◌}
use Rattle.std.specs.Prelude.{None, Option, Some, option_to_list, ◌&&◌, if◌then◌else◌}
use Rattle.pass_proofs.specs.ir_model.declared.instr.Instr.{Instr}
use Rattle.pass_proofs.specs.ir_model.declared.module.Block.{Block}
use Rattle.pass_proofs.specs.ir_model.declared.module.Module.{Module}
use Rattle.pass_proofs.specs.ir_model.declared.operand.Arg.{Arg}
use Rattle.pass_proofs.specs.ir_model.declared.operand.Callee.{Callee}
use Rattle.pass_proofs.specs.ir_model.declared.operand.Operand.{Operand}
use Rattle.pass_proofs.specs.ir_parts.Contents.{arg_operands, instr_operands, result_of}
use Rattle.pass_proofs.specs.pass_cells.Kept.{entry}
use Rattle.pass_proofs.specs.pass_cells.Moves.{after_saved, saved_values}
use Rattle.pass_proofs.specs.pass_cells.Written.{after_distance, after_distance_into, distance_behind, distance_from, distance_into, stored_at, stored_result}
use Rattle.pass_proofs.specs.pass_cells.declared.plan.Plan.{Plan}
use Rattle.pass_proofs.specs.pass_copies.BeginCopies.{begin_copies, is_fetched}
use Rattle.pass_proofs.specs.pass_copies.Uses.{is_access, is_begin}
use Rattle.pass_proofs.specs.pass_copies.declared.copying.Copying.{Copying}
use Rattle.pass_proofs.specs.pass_fetch.Fetching.{callee_by, fetch_of, fetched_args, fetched_operand, fetches_of_all, next_after_all, next_by, operand_by}
use Rattle.pass_proofs.specs.pass_fetch.Instrs.{next_after_instr, with_fetched}
use Rattle.pass_proofs.specs.pass_fetch.declared.fetch.Fetch.{Fetch}
use Rattle.pass_proofs.proofs.fetch.shape.Fetching.{none_fetched}
use Rattle.pass_frames_code.specs.Layers.{IsIdle, Layer, each, only}
use Rattle.pass_frames_code.specs.Passes.{IsUnmeasured, IsUnwritten, copying, fetching, writing}
use Rattle.pass_proofs.specs.fetch.rules.Fetches.{AreUnfetched}

-- ---- operands that aren't fetched

module _ (t : List (Option Fetch)) where
  operand_same : (n : ℕ) (x : Operand) → fetch_of t x ≡ None → fetched_operand t n x ≡ x
  operand_same n x e = ap (λ (o : Option Fetch). operand_by n o x) e

  arg_same : (n : ℕ) (a : Arg) → fetch_of t a.value ≡ None
      → record { ty = a.ty; value = fetched_operand t n a.value } ≡ a
  arg_same n a e = λ k. record { ty = a.ty; value = operand_same n a.value e k }

  args_same : (n : ℕ) (args : List Arg) → AreUnfetched t (arg_operands args) → fetched_args t n args ≡ args
  args_same n [] h = refl
  args_same n (a ∷ args) h = λ k. arg_same n a h.0 k ∷ args_same (next_by n (fetch_of t a.value)) args h.1 k

  pub next_same : (n : ℕ) (xs : List Operand) → AreUnfetched t xs → next_after_all t n xs ≡ n
  next_same n [] h = refl
  next_same n (x ∷ xs) h = ap (λ (o : Option Fetch). next_after_all t (next_by n o) xs) h.0 ∙ next_same n xs h.1

  pub instr_same : (n : ℕ) (i : Instr) → AreUnfetched t (instr_operands i) → with_fetched t n i ≡ i
  instr_same n (Instr.Binary r op flags ty a b) h =
      λ k. Instr.Binary r op flags ty (operand_same n a h.0 k) (operand_same (next_by n (fetch_of t a)) b h.1.0 k)
  instr_same n (Instr.Icmp r pred ty a b) h =
      λ k. Instr.Icmp r pred ty (operand_same n a h.0 k) (operand_same (next_by n (fetch_of t a)) b h.1.0 k)
  instr_same n (Instr.Select r c a b) h =
      λ k. Instr.Select r (operand_same n c h.0 k) (arg_same (next_by n (fetch_of t c)) a h.1.0 k)
      (arg_same (next_by (next_by n (fetch_of t c)) (fetch_of t a.value)) b h.1.1.0 k)
  instr_same n (Instr.Cast r op nneg a to) h = λ k. Instr.Cast r op nneg (arg_same n a h.0 k) to
  instr_same n (Instr.Alloca r ty align) h = refl
  instr_same n (Instr.Load r ty p align) h = λ k. Instr.Load r ty (operand_same n p h.0 k) align
  instr_same n (Instr.Store a p align) h =
      λ k. Instr.Store (arg_same n a h.0 k) (operand_same (next_by n (fetch_of t a.value)) p h.1.0 k) align
  instr_same n (Instr.Gep r inbounds ty base indices) h =
      λ k. Instr.Gep r inbounds ty (operand_same n base h.0 k) (args_same (next_by n (fetch_of t base)) indices h.1 k)
  instr_same n (Instr.Call r must_tail ty (Callee.Named c) args) h =
      λ k. Instr.Call r must_tail ty (Callee.Named c) (args_same n args h k)
  instr_same n (Instr.Call r must_tail ty (Callee.Allocator c) args) h =
      λ k. Instr.Call r must_tail ty (Callee.Allocator c) (args_same n args h k)
  instr_same n (Instr.Call r must_tail ty (Callee.Intrinsic c) args) h =
      λ k. Instr.Call r must_tail ty (Callee.Intrinsic c) (args_same n args h k)
  instr_same n (Instr.Call r must_tail ty (Callee.Local v) args) h =
      λ k. Instr.Call r must_tail ty (callee_by n (h.0 k) (Callee.Local v))
      (args_same (next_by n (fetch_of t (Operand.Local v))) args h.1 k)

pub fetches_idle : (t : List (Option Fetch)) (ends : List Instr) (first : ℕ) (b : Block) (i : Instr)
    → AreUnfetched t (instr_operands i) → IsIdle (fetching t ends first b) i
fetches_idle t ends first b i h = record {
  stays = λ n. λ k. none_fetched t n (instr_operands i) h k ++ instr_same t n i h k ∷ [];
  state = λ n. next_same t n (instr_operands i) h;
}

-- ---- values that aren't kept

module _ (m : Module) (p : Plan) where
  pub not_stored : (o : Option ℕ) → ((v : ℕ) → o ≡ Some v → entry p.places v ≡ None) → stored_result p o ≡ []
  not_stored None h = refl
  not_stored (Some v) h = ap (stored_at p.kept v) (h v refl)

  pub not_measured : (n : ℕ) (i : Instr) → IsUnmeasured p i
      → (distance_behind m p n i ≡ []) × (after_distance m p n i ≡ n)
  not_measured n (Instr.Gep r inbounds ty base indices) h = (
    ap (λ (o : Option ℕ). distance_into m (distance_from p r) n o ty indices) h,
    ap
        (λ (o : Option ℕ). after_distance_into m n o ty indices) h,
  )
  not_measured n (Instr.Binary r op flags ty a b) h = (refl, refl)
  not_measured n (Instr.Icmp r pred ty a b) h = (refl, refl)
  not_measured n (Instr.Select r c a b) h = (refl, refl)
  not_measured n (Instr.Cast r op nneg a to) h = (refl, refl)
  not_measured n (Instr.Alloca r ty align) h = (refl, refl)
  not_measured n (Instr.Load r ty x align) h = (refl, refl)
  not_measured n (Instr.Store a x align) h = (refl, refl)
  not_measured n (Instr.Call r must_tail ty c args) h = (refl, refl)

  pub cells_idle : (front : List Instr) (first : ℕ) (b : Block) (i : Instr) → IsUnwritten p i
      → IsIdle (writing m p front first b) i
  cells_idle front first b i h = record {
    stays = λ n.
        (λ k. saved_values p.kept n (h.row k)
        ++ (i ∷ (not_stored (result_of i) h.result k ++ distance_behind m p (after_saved n (h.row k)) i)))
        ∙ ap (λ (xs : List Instr). i ∷ xs) (not_measured n i h.distance).0;
    state = λ n. ap (λ (row : List ℕ). after_distance m p (after_saved n row) i) h.row
        ∙ (not_measured n i h.distance).1;
  }

-- ---- points that aren't begin, and accesses that don't go by cells

module _ (c : Copying) (before : List Bool) (front : List Instr) (first : ℕ) (b : Block) where
  abbrev layer : Layer (Bool × ℕ)
  layer = copying c before front first b

  pub copies_idle : (i : Instr) → is_begin i ≡ false → AreUnfetched c.fetches (instr_operands i) → IsIdle layer i
  copies_idle i begins h = record {
    stays = λ s. (λ k. (by_fetches s.1 (is_fetched s.0 i) k).0
        ++ ((by_fetches s.1 (is_fetched s.0 i) k).1 ∷ (if begins k then begin_copies c.slots else [])));
    state = λ s. λ k. (if begins k then false else s.0, by_next s.1 (is_fetched s.0 i) k);
  }
    where
      by_fetches : (n : ℕ) (y : Bool)
          → ◌≡◌ {A = List Instr × Instr} (
            if y then fetches_of_all c.fetches n (instr_operands i) else [],
            if y then with_fetched c.fetches n
                i else i,
          ) ([], i)
      by_fetches n true = λ k. (none_fetched c.fetches n (instr_operands i) h k, instr_same c.fetches n i h k)
      by_fetches n false = refl

      by_next : (n : ℕ) (y : Bool) → (if y then next_after_instr c.fetches n i else n) ≡ n
      by_next n true = next_same c.fetches n (instr_operands i) h
      by_next n false = refl

  -- what accesses nothing isn't looked at
  pub other_idle : (i : Instr) → is_begin i ≡ false → is_access i ≡ false → IsIdle layer i
  other_idle i begins reads = record {
    stays = λ s. (λ k. (if s.0 && reads k then fetches_of_all c.fetches s.1 (instr_operands i) else [])
        ++ ((if s.0 && reads k then with_fetched c.fetches s.1 i else i)
        ∷ (if begins k then begin_copies c.slots else []))) ∙ none s.0 s.1;
    state = λ s. (λ k. (
      if begins k then false else s.0,
      if s.0 && reads k then next_after_instr c.fetches s.1 i else s.1,
    )) ∙ same s.0 s.1;
  }
    where
      none : (b : Bool) (n : ℕ)
          → (if b && false then fetches_of_all c.fetches n (instr_operands i) else [])
          ++ ((if b && false then with_fetched c.fetches n i else i) ∷ []) ≡ i ∷ []
      none true n = refl
      none false n = refl

      same : (b : Bool) (n : ℕ)
          → ◌≡◌ {A = Bool × ℕ} (b, if b && false then next_after_instr c.fetches n i else n) (b, n)
      same true n = refl
      same false n = refl

-- ---- tests, and instructions that become others

pub only_idle : (test : Instr → Bool) (i : Instr) → test i ≡ true → IsIdle (only test) i
only_idle test i e = record {
  stays = λ s. ap (λ (y : Bool). option_to_list (if y then Some i else None) ++ []) e;
  state = λ s. refl;
}

pub each_idle : (turned : Instr → Instr) (i : Instr) → turned i ≡ i → IsIdle (each turned) i
each_idle turned i e = record { stays = λ s. ap (λ (j : Instr). j ∷ []) e; state = λ s. refl }
