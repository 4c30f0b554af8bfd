-- Where edges have blocks, the labels of the resume and destroy edges of all suspends are those of blocks of their own.
use Rattle.std.proofs.Common.{pos, Bool, List, None, Option, Some, [], ap, append_assoc, arith, false, if◌then◌else◌, inl, inr, length, option_map, refl, subst, suc, sym, true, ℕ, ⊎_elim, ◌&&◌, ◌++◌, ◌+◌, ◌-◌, ◌∙◌, ◌∷◌, ◌≡◌, ◌⊎◌}
use Rattle.std.proofs.lemmas.Option.{slice_get-map}
use Rattle.std.specs.Prelude.{slice_get}
use Rattle.pass_early_proof.specs.rule_shape.Switches.{are_both, wrong_switch}
use Rattle.pass_early_proof.proofs.ir_laws.facts.Truth.{and_first, and_second}
use Rattle.pass_early_proof.proofs.ir_laws.facts.local_rules.Woven.{other_number}
use Rattle.pass_early_proof.proofs.ir_laws.facts.Lists.{row_of}
use Rattle.pass_edges_proof.proofs.edges.paths.Blocks.{own_number}
use Rattle.pass_early_proof.specs.ir_laws.paths.threads.Labels.{HasNamedLabels}
use Rattle.pass_edges_proof.specs.edges.paths.Phis.{AreLabelsOnce}
use Rattle.pass_edges_proof.proofs.edges.rules.Homes.{IsEdge, IsOwn, home, own_block}
use Rattle.pass_edges_proof.proofs.edges.rules.Returns.{have_own_blocks}
use Rattle.pass_early_proof.proofs.ir_laws.paths.rows.Rows.{in_row_of, row_different}
use Rattle.pass_edges_proof.proofs.edges.rules.Switched.{both_split, switched}
use Rattle.pass_early_proof.specs.ir_laws.paths.rows.Returns.{AreOwnAndDifferent, IsOwnBlock, LeadsFrom}
use Rattle.pass_early_proof.specs.rule_laws.frames.rows.Returns.{HaveOwnReturns, return_labels}
use Rattle.pass_early_proof.specs.rule_laws.rules.rows.Returns.{IsSwitched}
use Rattle.pass_edges.specs.EdgeBlocks.{split_cases, split_label, split_term, with_edge_blocks}
use Rattle.pass_edges.specs.Edges.{after_edge, ends_in_suspend, is_suspend, is_suspend_at, phi_flags}
use Rattle.pass_early_proof.specs.flow_solver.Paths.{IsListed}
use Rattle.pass_early_proof.specs.pass_intrinsics.Shapes.{is_final, save_of, suspends_of, with_suspend, with_suspends_by, with_suspends_in}
use Rattle.pass_early_proof.specs.pass_intrinsics.declared.shape.SuspendPoint.{SuspendPoint}
use Rattle.ir_model.specs.declared.instr.Case.{Case}
use Rattle.ir_model.specs.declared.instr.Instr.{Instr}
use Rattle.ir_model.specs.declared.instr.Terminator.{Terminator}
use Rattle.ir_model.specs.declared.module.Block.{Block}
use Rattle.ir_model.specs.declared.module.Function.{Function}
use Rattle.ir_model.specs.declared.operand.Arg.{Arg}
use Rattle.ir_model.specs.declared.operand.Callee.{Callee}
use Rattle.ir_model.specs.declared.operand.Intrinsic.{Intrinsic}
use Rattle.ir_model.specs.declared.operand.Operand.{Operand}
use Rattle.pass_early_proof.proofs.ir_paths.Search.{either, eq_from}
use Rattle.pass_early_proof.specs.ir_paths.Paths.{targets}
use Rattle.pass_early_proof.specs.ir_paths.Windows.{is_number, label_in, label_of_term}
use Rattle.pass_early_proof.specs.ir_laws.paths.woven_rules.Pairs.{AreDifferent}

-- ---- the labels of suspends, block by block

abbrev pub end_returns : Block → List ℕ
end_returns b = label_of_term 0 b.term ∷ label_of_term 1 b.term ∷ []

abbrev pub instr_returns : Block → Instr → List ℕ
instr_returns b i = if is_suspend i then end_returns b else []

abbrev pub block_returns : Block → List ℕ
block_returns b = row_of (instr_returns b) b.instrs

none_behind : (ns : List ℕ) → ns ≡ ns ++ []
none_behind [] = refl
none_behind (n ∷ ns) = ap (λ ms. n ∷ ms) (none_behind ns)

labels_append : (xs ys : List SuspendPoint) → return_labels (xs ++ ys) ≡ return_labels xs ++ return_labels ys
labels_append [] ys = refl
labels_append (x ∷ xs) ys = ap (λ ns. x.resume ∷ x.destroy ∷ ns) (labels_append xs ys)

labels_one : (all : List SuspendPoint) (b : Block) (i : Instr) → return_labels (with_suspend all b i) ≡ return_labels all ++ instr_returns b i
labels_one all b (Instr.Call result must_tail ty (Callee.Intrinsic Intrinsic.CoroSuspend) args) =
    labels_append all (record { save = save_of args; is_final = is_final args; block = b.label; resume = label_of_term 0 b.term; destroy = label_of_term 1 b.term } ∷ [])
labels_one all b _ = none_behind (return_labels all)

labels_in : (all : List SuspendPoint) (b : Block) (is : List Instr) → return_labels (with_suspends_in all b is) ≡ return_labels all ++ row_of (instr_returns b) is
labels_in all b [] = none_behind (return_labels all)
labels_in all b (i ∷ is) =
    labels_in (with_suspend all b i) b is
    ∙ ap (λ ns. ns ++ row_of (instr_returns b) is) (labels_one all b i)
    ∙ append_assoc (return_labels all) (instr_returns b i) (row_of (instr_returns b) is)

labels_by : (all : List SuspendPoint) (bs : List Block) → return_labels (with_suspends_by all bs) ≡ return_labels all ++ row_of block_returns bs
labels_by all [] = none_behind (return_labels all)
labels_by all (b ∷ bs) =
    labels_by (with_suspends_in all b b.instrs) bs
    ∙ ap (λ ns. ns ++ row_of block_returns bs) (labels_in all b b.instrs)
    ∙ append_assoc (return_labels all) (block_returns b) (row_of block_returns bs)

labels_of_blocks : (f : Function) → return_labels (suspends_of f) ≡ row_of block_returns f.blocks
labels_of_blocks f = labels_by [] f.blocks

-- ---- a block whose suspends are last

-- each suspend of the instructions is the last of them
abbrev pub IsSuspendLast : List Instr → Type 0
IsSuspendLast is = (x : ℕ) (i : Instr) → slice_get is x ≡ Some i → is_suspend i ≡ true → x + 1 ≡ length is

-- the labels are none, or those of the one suspend that is last
abbrev AreReturns : List ℕ → List Instr → List ℕ → Type 0
AreReturns ends is ns = (ns ≡ []) ⊎ ((ns ≡ ends) × (ends_in_suspend is ≡ true))

last_returns : (b : Block) (is : List Instr) → IsSuspendLast is → AreReturns (end_returns b) is (row_of (instr_returns b) is)
last_returns b [] last = inl refl
last_returns b (i ∷ is) last = on (is_suspend i) refl (last_returns b is (λ x j e s. let more : suc x + 1 ≡ suc (length is) = last (suc x) j e s in omega (arith, more)))
  where
    alone : is_suspend i ≡ true → (js : List Instr) → is ≡ js → 1 ≡ suc (length js) → AreReturns (end_returns b) (i ∷ js) (end_returns b ++ row_of (instr_returns b) js)
    alone s [] e one = inr (refl, s)
    alone s (j ∷ js) e one = absurd (omega (arith, one))

    further : (js : List Instr) → AreReturns (end_returns b) js (row_of (instr_returns b) js) → AreReturns (end_returns b) (i ∷ js) (row_of (instr_returns b) js)
    further js (inl e) = inl e
    further [] (inr h) = let no : false ≡ true = h.1 in absurd (cc)
    further (j ∷ js) (inr h) =
        let same : suc (suc (length js)) - 1 ≡ suc (suc (length js) - 1) = omega arith in
        inr (h.0, ap (λ (n : ℕ). is_suspend_at (slice_get (i ∷ j ∷ js) n)) same ∙ h.1)

    on : (t : Bool) → is_suspend i ≡ t → AreReturns (end_returns b) is (row_of (instr_returns b) is) → AreReturns (end_returns b) (i ∷ is) ((if t then end_returns b else []) ++ row_of (instr_returns b) is)
    on true s again = let one : 0 + 1 ≡ suc (length is) = last 0 i refl s in alone s is refl (let z : 1 ≡ suc (length is) = omega (arith, one) in z)
    on false s again = further is again

-- ---- a switch with exactly the cases 0 and 1

-- the labels of 0 and 1 are those of two cases
pub record HasBoth (cases : List Case) (default : ℕ) : Type 0 where
  pub first : ℕ
  pub second : ℕ
  pub apart : first ≡ second → ⊥
  pub resume : Case
  pub destroy : Case
  pub got_resume : slice_get cases first ≡ Some resume
  pub got_destroy : slice_get cases second ≡ Some destroy
  pub is_resume : label_in 0 cases default ≡ resume.target
  pub is_destroy : label_in 1 cases default ≡ destroy.target

other_number_of : (m n : ℕ) (x : Operand) → (m ≡ n → ⊥) → is_number m x ≡ true → is_number n x ≡ false
other_number_of m n (Operand.Number (pos k)) h e = other_number n k (λ same. h (eq_from m k e ∙ sym same))
other_number_of m n _ h e = absurd (cc)

in_order : (a b : Case) (default : ℕ) → is_number 0 a.arg.value ≡ true → is_number 1 b.arg.value ≡ true → HasBoth (a ∷ b ∷ []) default
in_order a b default p q = record {
  first = 0;
  second = 1;
  apart = λ e. absurd (omega (arith, e));
  resume = a;
  destroy = b;
  got_resume = refl;
  got_destroy = refl;
  is_resume = ap (λ (t : Bool). if t then a.target else label_in 0 (b ∷ []) default) p;
  is_destroy =
      ap (λ (t : Bool). if t then a.target else label_in 1 (b ∷ []) default) (other_number_of 0 1 a.arg.value (λ e. absurd (omega (arith, e))) p)
      ∙ ap (λ (t : Bool). if t then b.target else default) q;
}

out_of_order : (a b : Case) (default : ℕ) → is_number 1 a.arg.value ≡ true → is_number 0 b.arg.value ≡ true → HasBoth (a ∷ b ∷ []) default
out_of_order a b default p q = record {
  first = 1;
  second = 0;
  apart = λ e. absurd (omega (arith, e));
  resume = b;
  destroy = a;
  got_resume = refl;
  got_destroy = refl;
  is_resume =
      ap (λ (t : Bool). if t then a.target else label_in 0 (b ∷ []) default) (other_number_of 1 0 a.arg.value (λ e. absurd (omega (arith, e))) p)
      ∙ ap (λ (t : Bool). if t then b.target else default) q;
  is_destroy = ap (λ (t : Bool). if t then a.target else label_in 1 (b ∷ []) default) p;
}

has_both : (cases : List Case) (default : ℕ) → are_both cases ≡ true → HasBoth cases default
has_both (a ∷ b ∷ []) default h = ⊎_elim
    (λ (e : (is_number 0 a.arg.value && is_number 1 b.arg.value) ≡ true). in_order a b default (and_first (is_number 0 a.arg.value) (is_number 1 b.arg.value) e) (and_second (is_number 0 a.arg.value) (is_number 1 b.arg.value) e))
    (λ (e : (is_number 1 a.arg.value && is_number 0 b.arg.value) ≡ true). out_of_order a b default (and_first (is_number 1 a.arg.value) (is_number 0 b.arg.value) e) (and_second (is_number 1 a.arg.value) (is_number 0 b.arg.value) e))
    (either (is_number 0 a.arg.value && is_number 1 b.arg.value) (is_number 1 a.arg.value && is_number 0 b.arg.value) h)
has_both _ default h = absurd (cc)

module _ (func : ℕ) (f : Function) (coroutine : f.coroutine ≡ true) (switches : wrong_switch func f ≡ None) where
  module _ (named : HasNamedLabels f) (once : AreLabelsOnce f) where
    abbrev g : Function
    g = with_edge_blocks f

    -- what the labels of a block's suspend are
    record AreOwn (k : ℕ) (ns : List ℕ) : Type 0 where
      own : (n : ℕ) → IsListed n ns → IsOwnBlock g n
      from : (n : ℕ) → IsListed n ns → (i : ℕ) × LeadsFrom g k i n
      different : AreDifferent ns

    no_labels : (k : ℕ) → AreOwn k []
    no_labels k = record { own = λ n l. absurd l; from = λ n l. absurd l; different = tt }

    both_labels : (k : ℕ) (c : Block) (arg : Arg) (default : ℕ) (cases : List Case) → slice_get g.blocks k ≡ Some c → ends_in_suspend c.instrs ≡ true → c.term ≡ Terminator.Switch arg default cases → are_both cases ≡ true → AreOwn k (end_returns c)
    both_labels k c arg default cases there s is both =
        subst (λ (t : Terminator). AreOwn k (label_of_term 0 t ∷ label_of_term 1 t ∷ [])) (sym is)
        (subst (λ (n : ℕ). AreOwn k (n ∷ label_in 1 cases default ∷ [])) (sym x.is_resume)
        (subst (λ (n : ℕ). AreOwn k (x.resume.target ∷ n ∷ [])) (sym x.is_destroy) of_two))
      where
        x : HasBoth cases default
        x = has_both cases default both

        own_of : (j : ℕ) (d : Case) → slice_get cases j ≡ Some d → IsOwnBlock g d.target
        own_of j d e = have_own_blocks f named once k j c arg default cases d there s is e

        leads_from : (j : ℕ) (d : Case) → slice_get cases j ≡ Some d → LeadsFrom g k (suc j) d.target
        leads_from j d e = record {
          block = c;
          got = there;
          target = ap (λ (t : Terminator). slice_get (targets t) (suc j)) is ∙ slice_get-map (λ (y : Case). y.target) cases j ∙ ap (option_map (λ (y : Case). y.target)) e;
        }

        two_apart : x.resume.target ≡ x.destroy.target → ⊥
        two_apart same =
            let at = ((own_of x.first x.resume x.got_resume).once k (suc x.first) k (suc x.second) (leads_from x.first x.resume x.got_resume) (subst (LeadsFrom g k (suc x.second)) (sym same) (leads_from x.second x.destroy x.got_destroy))).1 in
            x.apart (let z : x.first ≡ x.second = omega (arith, at) in z)

        own_two : (n : ℕ) → IsListed n (x.resume.target ∷ x.destroy.target ∷ []) → IsOwnBlock g n
        own_two n (inl e) = subst (IsOwnBlock g) (sym e) (own_of x.first x.resume x.got_resume)
        own_two n (inr (inl e)) = subst (IsOwnBlock g) (sym e) (own_of x.second x.destroy x.got_destroy)
        own_two n (inr (inr l)) = absurd l

        from_two : (n : ℕ) → IsListed n (x.resume.target ∷ x.destroy.target ∷ []) → (i : ℕ) × LeadsFrom g k i n
        from_two n (inl e) = (suc x.first, subst (LeadsFrom g k (suc x.first)) (sym e) (leads_from x.first x.resume x.got_resume))
        from_two n (inr (inl e)) = (suc x.second, subst (LeadsFrom g k (suc x.second)) (sym e) (leads_from x.second x.destroy x.got_destroy))
        from_two n (inr (inr l)) = absurd l

        not_listed : IsListed x.resume.target (x.destroy.target ∷ []) → ⊥
        not_listed (inl e) = two_apart e
        not_listed (inr l) = l

        of_two : AreOwn k (x.resume.target ∷ x.destroy.target ∷ [])
        of_two = record { own = own_two; from = from_two; different = (not_listed, (λ l. l, tt)) }

    -- a block of the function, as it is then
    own_labels : (k j : ℕ) (b : Block) → slice_get f.blocks j ≡ Some b → slice_get g.blocks k ≡ Some (own_block f j b) → AreOwn k (block_returns (own_block f j b))
    own_labels k j b there now =
        on (last_returns (own_block f j b) b.instrs (λ x i e s. (switched func f coroutine switches j x b i there e s).last))
      where
        term_is : ends_in_suspend b.instrs ≡ true → (x : ℕ) (i : Instr) → IsSwitched b x i → AreOwn k (end_returns (own_block f j b))
        term_is s x i t =
            both_labels k (own_block f j b) t.arg (split_label (phi_flags f) false (own_number f j) t.default) (split_cases (phi_flags f) (ends_in_suspend b.instrs) (after_edge (phi_flags f) false (own_number f j) t.default) t.cases) now s
            (ap (split_term (phi_flags f) (ends_in_suspend b.instrs) (own_number f j)) t.is)
            (both_split (phi_flags f) (ends_in_suspend b.instrs) (after_edge (phi_flags f) false (own_number f j) t.default) t.cases t.both)

        last_there : (is : List Instr) → ends_in_suspend is ≡ true → (x : ℕ) × ((i : Instr) × ((slice_get is x ≡ Some i) × (is_suspend i ≡ true)))
        last_there is s = at (slice_get is (length is - 1)) refl s
          where
            at : (o : Option Instr) → slice_get is (length is - 1) ≡ o → is_suspend_at o ≡ true → (x : ℕ) × ((i : Instr) × ((slice_get is x ≡ Some i) × (is_suspend i ≡ true)))
            at None e h = absurd (cc)
            at (Some i) e h = (length is - 1, (i, (e, h)))

        on : AreReturns (end_returns (own_block f j b)) b.instrs (block_returns (own_block f j b)) → AreOwn k (block_returns (own_block f j b))
        on (inl e) = subst (AreOwn k) (sym e) (no_labels k)
        on (inr h) =
            let i = last_there b.instrs h.1 in
            subst (AreOwn k) (sym h.0) (term_is h.1 i.0 i.1.0 (switched func f coroutine switches j i.0 b i.1.0 there i.1.1.0 i.1.1.1))

    labels_at : (k : ℕ) (c : Block) → slice_get g.blocks k ≡ Some c → AreOwn k (block_returns c)
    labels_at k c there = ⊎_elim
        (λ (x : IsOwn f k c). subst (λ (d : Block). AreOwn k (block_returns d)) (sym x.is) (own_labels k x.index x.block x.got (there ∙ ap (λ (d : Block). Some d) x.is)))
        (λ (x : IsEdge f k c). subst (λ (d : Block). AreOwn k (block_returns d)) (sym x.is) (no_labels k))
        (home f k c there)

    pub own_returns : HaveOwnReturns (with_edge_blocks f)
    own_returns =
        subst (λ (ns : List ℕ). AreOwnAndDifferent g ns) (sym (labels_of_blocks g))
        (record {
          own = λ n l. let x = in_row_of block_returns g.blocks n l in (labels_at x.index x.element x.got).own n x.has;
          different =
              row_different block_returns g.blocks (λ k c e. (labels_at k c e).different)
              (λ k m c d n e s a b.
              let x = (labels_at k c e).from n a in
              let y = (labels_at m d s).from n b in
              (((labels_at k c e).own n a).once k x.0 m y.0 x.1 y.1).0);
        })
