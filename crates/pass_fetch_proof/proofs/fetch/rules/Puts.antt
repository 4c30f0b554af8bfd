-- Fetches that are put in before the part that uses them.
use Rattle.std.proofs.Common.{◌≡◌, inl, inr, ⊎_elim, ℕ, ◌+◌, ◌<◌, ◌≤◌, Bool, true, false, List, [], ◌∷◌, ◌++◌, refl, sym, ap, ◌∙◌, subst, arith, append_assoc}
use Rattle.std.proofs.lemmas.Bool.{lt-ltb}
use Rattle.std.specs.Prelude.{None, Option, Some, not, pos, nat_lt, ◌&&◌, ◌^◌, if◌then◌else◌}
use Rattle.pass_edges_proof.specs.rule_uses.Uses.{made_by_instrs}
use Rattle.pass_edges_proof.proofs.ir_laws.facts.Truth.{itself, and_both}
use Rattle.pass_edges_proof.proofs.ir_laws.paths.source_rules.Locals.{listed_either, listed_left, listed_right}
use Rattle.pass_edges_proof.proofs.rule_laws.rules.source_rules.Locals.{made_by}
use Rattle.pass_fetch_proof.specs.fetch.rules.Fetches.{AreUnfetched, FitsFetch, FitsTable, LeavesMarks, base_of, fetched_kind}
use Rattle.pass_edges_proof.specs.flow_solver.Paths.{IsListed}
use Rattle.pass_edges_proof.specs.ir_parts.Contents.{arg_operands, instr_operands, result_of}
use Rattle.ir_model.specs.Ty.{Ty, int, ptr}
use Rattle.ir_model.specs.declared.instr.Instr.{Instr}
use Rattle.ir_model.specs.declared.instr.Case.{Case}
use Rattle.ir_model.specs.declared.instr.Terminator.{Terminator}
use Rattle.ir_model.specs.declared.module.Function.{Function}
use Rattle.ir_model.specs.declared.module.Module.{Module}
use Rattle.ir_model.specs.declared.module.TypeItem.{TypeItem}
use Rattle.ir_model.specs.declared.operand.Arg.{Arg}
use Rattle.ir_model.specs.declared.operand.Callee.{Callee}
use Rattle.ir_model.specs.declared.operand.Operand.{Operand}
use Rattle.pass_edges_proof.specs.rule_names.Known.{knows_type}
use Rattle.pass_edges_proof.specs.run_laws.changed.Changed.{Each}
use Rattle.pass_edges_proof.specs.rule_types.Depth.{is_shallow}
use Rattle.pass_edges_proof.specs.pass_fetch.Fetching.{callee_by, fetched_arg, fetches_of, fetch_into, fetch_of, fetched_args, fetched_callee, fetched_operand, fetches_by, fetches_of_all, next_after, next_after_all, next_by, operand_by}
use Rattle.pass_edges_proof.specs.pass_fetch.Instrs.{fetched_instr, fetched_term, term_operands, with_fetched}
use Rattle.pass_edges_proof.specs.pass_fetch.declared.fetch.Fetch.{Fetch}
use Rattle.pass_edges_proof.specs.rule_values.Fits.{fits_kind, is_scalar}
use Rattle.pass_edges_proof.specs.rule_values.Kinds.{instr_kind, kind_of}
use Rattle.pass_edges_proof.specs.rule_values.declared.kinds.Kind.{Kind}
use Rattle.pass_edges_proof.proofs.rule_laws.rules.woven_rules.Pieces.{made_contains, made_joined}
use Rattle.pass_edges_proof.proofs.ir_laws.facts.Members.{each_all, each_turns}
use Rattle.pass_edges_proof.proofs.rule_laws.rules.woven_rules.ValueKinds.{made_grows}
use Rattle.pass_edges_proof.specs.rule_laws.rules.woven_rules.Blocks.{AreWoven, IsNew, IsPutIn, Kept, Put, Remain, Stays, is_mark}
use Rattle.pass_edges_proof.specs.ir_laws.facts.woven_rules.Pairs.{Empty, Pair, Pairwise}
use Rattle.pass_edges_proof.specs.rule_laws.rules.woven_rules.Parts.{Alloca, Binary, Call, CalleeStays, Cast, Direct, Gep, Icmp, Indirect, InstrStays, Load, Select, Store}
use Rattle.pass_edges_proof.specs.ir_laws.facts.woven_rules.Parts.{ArgStays, Branch, Jump, Return, ReturnVoid, Switch, TermStays, Unreachable}
use Rattle.pass_edges_proof.specs.rule_laws.rules.woven_rules.Weaving.{Constant, Fetched, IsInPlace, IsKnown, Same, Weaving, goes_in, kinds_with}
use Rattle.pass_edges_proof.proofs.rule_laws.rules.fetching_rules.Puts.{int_shallow, ptr_shallow}

-- ---- one fetch

pub fetch_makes : (n : ℕ) (fetch : Fetch) → result_of (fetch_into n fetch) ≡ Some n
fetch_makes n (Fetch.Load ty cell) = refl
fetch_makes n (Fetch.Address base distance) = refl

pub fetch_kind : (n : ℕ) (fetch : Fetch) → instr_kind (fetch_into n fetch) n ≡ Some (fetched_kind fetch)
fetch_kind n (Fetch.Load ty cell) = ap (λ (b : Bool). if b then Some (kind_of ty) else None) (itself n)
fetch_kind n (Fetch.Address base distance) = ap (λ (b : Bool). if b then Some Kind.Ptr else None) (itself n)

scalar_known : (m : Module) (ty : Ty) → is_scalar ty ≡ true → knows_type m ty ≡ true
scalar_known m (int w) e = refl
scalar_known m ptr e = refl
scalar_known m _ e = absurd (cc)

scalar_shallow : (types : List TypeItem) (ty : Ty) → is_scalar ty ≡ true → is_shallow types ty ≡ true
scalar_shallow types (int w) e = int_shallow types w
scalar_shallow types ptr e = ptr_shallow types
scalar_shallow types _ e = absurd (cc)

module _ (w : Weaving) (m : Module) (f : Function) where
  new_result : (n : ℕ) (j : Instr) → IsNew w j n → (k : ℕ) → Some n ≡ Some k → IsNew w j k
  new_result n j h k e = let same : n ≡ k = cc in subst (IsNew w j) same h

  -- a fetch that fits may be put in where its address is known
  pub fetch_put : (block : ℕ) (made : List ℕ) (n v : ℕ) (fetch : Fetch) → FitsFetch (kinds_with w f) f v fetch → IsNew w (fetch_into n fetch) n → IsKnown w f block made (Operand.Local (base_of fetch)) → IsPutIn w m f block made (fetch_into n fetch)
  fetch_put block made n v (Fetch.Load ty cell) fits new known =
      record {
        result = new_result n (fetch_into n (Fetch.Load ty cell)) new;
        operands = (known, tt);
        stands = refl;
        fits = and_both (is_scalar ty) (fits_kind (kinds_with w f cell) ptr) fits.right.0 (ap (λ (o : Option Kind). fits_kind o ptr) fits.pointer);
        types = and_both (knows_type m ty) true (scalar_known m ty fits.right.0) refl;
        depths = and_both (is_shallow m.types ty) true (scalar_shallow m.types ty fits.right.0) refl;
        extents = λ p. ap not fits.right.1;
        calls = λ p. refl;
      }
  fetch_put block made n v (Fetch.Address base distance) fits new known =
      let lt : distance < 2 ^ 64 = fits.right in
      let in_range : nat_lt distance (2 ^ 64) ≡ true = lt-ltb distance (2 ^ 64) lt in
      record {
        result = new_result n (fetch_into n (Fetch.Address base distance)) new;
        operands = (known, (Constant (Operand.Number (pos distance)) refl, tt));
        stands = refl;
        fits =
            and_both (true && fits_kind (kinds_with w f base) ptr) (((true && nat_lt distance (2 ^ 64)) && true) && true)
            (and_both true (fits_kind (kinds_with w f base) ptr) refl (ap (λ (o : Option Kind). fits_kind o ptr) fits.pointer))
            (and_both ((true && nat_lt distance (2 ^ 64)) && true) true (and_both (true && nat_lt distance (2 ^ 64)) true (and_both true (nat_lt distance (2 ^ 64)) refl in_range) refl) refl);
        types = refl;
        depths = and_both (is_shallow m.types (int 8)) (is_shallow m.types (int 64) && true) (int_shallow m.types 8) (and_both (is_shallow m.types (int 64)) true (int_shallow m.types 64) refl);
        extents = λ p. refl;
        calls = λ p. refl;
      }

-- ---- the fetches of operands

pub fetch_rises : (t : List (Option Fetch)) (n : ℕ) (xs : List Operand) → n ≤ next_after_all t n xs
fetch_rises t n [] = omega arith
fetch_rises t n (x ∷ xs) =
    let here : n ≤ next_after t n x = on (fetch_of t x) in
    let more : next_after t n x ≤ next_after_all t (next_after t n x) xs = fetch_rises t (next_after t n x) xs in
    omega (arith, here, more)
  where
    on : (o : Option Fetch) → n ≤ next_by n o
    on None = omega arith
    on (Some fetch) = omega arith

one_listed : (n : ℕ) (o : Option Fetch) (j : Instr) → IsListed j (fetches_by n o) → (fetch : Fetch) × ((o ≡ Some fetch) × (j ≡ fetch_into n fetch))
one_listed n None j l = absurd l
one_listed n (Some fetch) j (inl e) = (fetch, (refl, e))
one_listed n (Some fetch) j (inr l) = absurd l

-- where the names of fetches lie
pub fetch_range : (t : List (Option Fetch)) (n : ℕ) (xs : List Operand) (j : Instr) (k : ℕ) → IsListed j (fetches_of_all t n xs) → result_of j ≡ Some k → (n ≤ k) × (k < next_after_all t n xs)
fetch_range t n [] j k l e = absurd l
fetch_range t n (x ∷ xs) j k l e =
    let more : next_after t n x ≤ next_after_all t (next_after t n x) xs = fetch_rises t (next_after t n x) xs in
    ⊎_elim
    (λ h.
    let x2 = one_listed n (fetch_of t x) j h in
    let made : Some n ≡ Some k = sym (fetch_makes n x2.0) ∙ ap result_of (sym x2.1.1) ∙ e in
    let same : n ≡ k = cc in
    let next : next_after t n x ≡ n + 1 = ap (next_by n) x2.1.0 in
    (omega (arith, same), omega (arith, same, next, more)))
    (λ h.
    let r = fetch_range t (next_after t n x) xs j k h e in
    let low : next_after t n x ≤ k = r.0 in
    let here : n ≤ next_after t n x = on (fetch_of t x) in
    (omega (arith, low, here), r.1))
    (listed_either j (fetches_of t n x) (fetches_of_all t (next_after t n x) xs) l)
  where
    on : (o : Option Fetch) → n ≤ next_by n o
    on None = omega arith
    on (Some fetch) = omega arith

-- a new name that a fetch has made
pub record HasMade (w : Weaving) (made : List ℕ) (j : Instr) (k : ℕ) : Type 0 where
  pub low : w.first ≤ k
  pub listed : IsListed k made
  pub kind : instr_kind j k ≡ w.kinds k

module _ (w : Weaving) (m : Module) (f : Function) (t : List (Option Fetch)) (table : FitsTable (kinds_with w f) f t) (stays : (v : ℕ) → w.goes v ≡ false) where
  pub none_goes : (x : Operand) → goes_in w x ≡ false
  none_goes (Operand.Local v) = stays v
  none_goes _ = refl

  -- ---- operands

  -- each operand is in the place of one
  abbrev pub InPlaceAll : List ℕ → ℕ → List Operand → Type 0
  InPlaceAll made n [] = Unit {0}
  InPlaceAll made n (x ∷ xs) = IsInPlace w f made x (fetched_operand t n x) × InPlaceAll made (next_after t n x) xs

  pub one_in_place : (made : List ℕ) (n : ℕ) (x : Operand) (o : Option Fetch) → fetch_of t x ≡ o → ((fetch : Fetch) → o ≡ Some fetch → HasMade w made (fetch_into n fetch) n) → IsInPlace w f made x (operand_by n o x)
  one_in_place made n x None e h = Same x (none_goes x)
  one_in_place made n (Operand.Local v) (Some fetch) e h = let a = h fetch refl in Fetched v n a.low a.listed (sym a.kind ∙ fetch_kind n fetch ∙ sym (table v fetch e).gives)
  one_in_place made n _ (Some fetch) e h = absurd (cc)

  pub all_in_place : (made : List ℕ) (n : ℕ) (xs : List Operand) → ((j : Instr) (k : ℕ) → IsListed j (fetches_of_all t n xs) → result_of j ≡ Some k → HasMade w made j k) → InPlaceAll made n xs
  all_in_place made n [] h = tt
  all_in_place made n (x ∷ xs) h = (
    one_in_place made n x (fetch_of t x) refl
        (λ fetch e. h (fetch_into n fetch) n (listed_left (fetch_into n fetch) (fetches_of t n x) (fetches_of_all t (next_after t n x) xs) (subst (λ (o : Option Fetch). IsListed (fetch_into n fetch) (fetches_by n o)) (sym e) (inl refl))) (fetch_makes n fetch)),
    all_in_place made (next_after t n x) xs (λ j k l e. h j k (listed_right j (fetches_of t n x) (fetches_of_all t (next_after t n x) xs) l) e),
  )

  -- ---- instructions and terminators

  args_fetched : (made : List ℕ) (n : ℕ) (args : List Arg) → InPlaceAll made n (arg_operands args) → Pairwise (ArgStays (IsInPlace w f made)) args (fetched_args t n args)
  args_fetched made n [] h = Empty
  args_fetched made n (a ∷ args) h = Pair a (fetched_arg t n a) args (fetched_args t (next_after t n a.value) args) (record { ty = refl; value = h.0 }) (args_fetched made (next_after t n a.value) args h.1)

  callee_fetched : (made : List ℕ) (n v : ℕ) (o : Option Fetch) → IsInPlace w f made (Operand.Local v) (operand_by n o (Operand.Local v)) → CalleeStays (IsInPlace w f made) (Callee.Local v) (callee_by n o (Callee.Local v))
  callee_fetched made n v None h = Indirect v v h
  callee_fetched made n v (Some fetch) h = Indirect v n h

  arg_fetched : (made : List ℕ) (n : ℕ) (a : Arg) → IsInPlace w f made a.value (fetched_operand t n a.value) → ArgStays (IsInPlace w f made) a (fetched_arg t n a)
  arg_fetched made n a h = record { ty = refl; value = h }

  stays_fetched : (made : List ℕ) (n : ℕ) (i : Instr) → InPlaceAll made n (instr_operands i) → InstrStays (IsInPlace w f made) i (with_fetched t n i)
  stays_fetched made n (Instr.Binary r op flags ty a b) h = Binary r op flags ty a b (fetched_operand t n a) (fetched_operand t (next_after t n a) b) h.0 h.1.0
  stays_fetched made n (Instr.Icmp r pred ty a b) h = Icmp r pred ty a b (fetched_operand t n a) (fetched_operand t (next_after t n a) b) h.0 h.1.0
  stays_fetched made n (Instr.Select r c a b) h =
      Select r c (fetched_operand t n c) a b (fetched_arg t (next_after t n c) a) (fetched_arg t (next_after t (next_after t n c) a.value) b) h.0 (arg_fetched made (next_after t n c) a h.1.0) (arg_fetched made (next_after t (next_after t n c) a.value) b h.1.1.0)
  stays_fetched made n (Instr.Cast r op nneg a to) h = Cast r op nneg a (fetched_arg t n a) to (arg_fetched made n a h.0)
  stays_fetched made n (Instr.Alloca r ty align) h = Alloca r ty align
  stays_fetched made n (Instr.Load r ty x align) h = Load r ty x (fetched_operand t n x) align h.0
  stays_fetched made n (Instr.Store a x align) h = Store a (fetched_arg t n a) x (fetched_operand t (next_after t n a.value) x) align (arg_fetched made n a h.0) h.1.0
  stays_fetched made n (Instr.Gep r inbounds ty x args) h = Gep r inbounds ty x (fetched_operand t n x) args (fetched_args t (next_after t n x) args) h.0 (args_fetched made (next_after t n x) args h.1)
  stays_fetched made n (Instr.Call r must_tail ty (Callee.Named c) args) h = Call r must_tail ty (Callee.Named c) (Callee.Named c) args (fetched_args t n args) (Direct (Callee.Named c) refl) (args_fetched made n args h)
  stays_fetched made n (Instr.Call r must_tail ty (Callee.Allocator c) args) h = Call r must_tail ty (Callee.Allocator c) (Callee.Allocator c) args (fetched_args t n args) (Direct (Callee.Allocator c) refl) (args_fetched made n args h)
  stays_fetched made n (Instr.Call r must_tail ty (Callee.Intrinsic c) args) h = Call r must_tail ty (Callee.Intrinsic c) (Callee.Intrinsic c) args (fetched_args t n args) (Direct (Callee.Intrinsic c) refl) (args_fetched made n args h)
  stays_fetched made n (Instr.Call r must_tail ty (Callee.Local v) args) h =
      Call r must_tail ty (Callee.Local v) (fetched_callee t n (Callee.Local v)) args (fetched_args t (next_after t n (Operand.Local v)) args)
      (callee_fetched made n v (fetch_of t (Operand.Local v)) h.0)
      (args_fetched made (next_after t n (Operand.Local v)) args h.1)

  pub term_fetched : (made : List ℕ) (n : ℕ) (e : Terminator) → InPlaceAll made n (term_operands e) → TermStays (IsInPlace w f made) e (fetched_term t n e)
  term_fetched made n (Terminator.Jump label) h = Jump label
  term_fetched made n (Terminator.Branch c a b) h = Branch c (fetched_operand t n c) a b h.0
  term_fetched made n (Terminator.Switch a default cases) h = Switch a (fetched_arg t n a) default cases (arg_fetched made n a h.0) (each_all (λ (c : Case). IsInPlace w f made c.arg.value c.arg.value) (λ c. Same c.arg.value (none_goes c.arg.value)) cases)
  term_fetched made n (Terminator.Ret None) h = ReturnVoid
  term_fetched made n (Terminator.Ret (Some a)) h = Return a (fetched_arg t n a) (arg_fetched made n a h.0)
  term_fetched made n Terminator.Unreachable h = Unreachable

  -- ---- markers stay as they are

  operand_same : (n : ℕ) (x : Operand) → fetch_of t x ≡ None → fetched_operand t n x ≡ x
  operand_same n x e = ap (λ (o : Option Fetch). operand_by n o x) e

  args_same : (n : ℕ) (args : List Arg) → AreUnfetched t (arg_operands args) → fetched_args t n args ≡ args
  args_same n [] h = refl
  args_same n (a ∷ args) h = λ k. record { ty = a.ty; value = operand_same n a.value h.0 k } ∷ args_same (next_after t n a.value) args h.1 k

  mark_same : (n : ℕ) (i : Instr) → is_mark i ≡ true → AreUnfetched t (instr_operands i) → with_fetched t n i ≡ i
  mark_same n (Instr.Call r must_tail ty (Callee.Intrinsic c) args) e h = λ k. Instr.Call r must_tail ty (Callee.Intrinsic c) (args_same n args h k)
  mark_same n _ e h = absurd (cc)

  pub fetched_stays : (made : List ℕ) (n : ℕ) (i : Instr) → InPlaceAll made n (instr_operands i) → LeavesMarks t i → Stays w f made i (with_fetched t n i)
  fetched_stays made n i h marks =
      Kept i (with_fetched t n i) (stays_fetched made n i h)
      (λ mark. record { same = mark_same n i mark (marks mark); slot = each_all (λ (x : Operand). goes_in w x ≡ false) none_goes (instr_operands i) })

  -- ---- the fetches before a part

  -- the address by which the operand is fetched is known, whatever else is made
  abbrev pub KnowsBase : ℕ → List ℕ → Operand → Type 0
  KnowsBase block made x = (fetch : Fetch) → fetch_of t x ≡ Some fetch → (now : List ℕ) → ((n : ℕ) → IsListed n made → IsListed n now) → IsKnown w f block now (Operand.Local (base_of fetch))

  pub knows_more : (block : ℕ) (made now : List ℕ) → ((n : ℕ) → IsListed n made → IsListed n now) → (xs : List Operand) → Each (KnowsBase block made) xs → Each (KnowsBase block now) xs
  knows_more block made now up = each_turns (KnowsBase block made) (KnowsBase block now) (λ x known fetch e later h. known fetch e later (λ n l. h n (up n l)))

  put_one : (block : ℕ) (made : List ℕ) (n : ℕ) (x : Operand) (o : Option Fetch) → fetch_of t x ≡ o → KnowsBase block made x → ((fetch : Fetch) → o ≡ Some fetch → IsNew w (fetch_into n fetch) n) → (is js : List Instr) → AreWoven w m f block (made_by_instrs made (fetches_by n o)) is js → AreWoven w m f block made is (fetches_by n o ++ js)
  put_one block made n x None e known new is js rest = rest
  put_one block made n (Operand.Local v) (Some fetch) e known new is js rest = Put made (fetch_into n fetch) is js (fetch_put w m f block made n v fetch (table v fetch e) (new fetch refl) (known fetch e made (λ k l. l))) rest
  put_one block made n _ (Some fetch) e known new is js rest = absurd (cc)

  -- each new name of these is new
  abbrev pub AreNew : List Instr → Type 0
  AreNew js = (j : Instr) (k : ℕ) → IsListed j js → result_of j ≡ Some k → IsNew w j k

  pub puts_woven : (block : ℕ) (made : List ℕ) (n : ℕ) (xs : List Operand) (is js : List Instr) → Each (KnowsBase block made) xs → AreNew (fetches_of_all t n xs) → AreWoven w m f block (made_by_instrs made (fetches_of_all t n xs)) is js → AreWoven w m f block made is (fetches_of_all t n xs ++ js)
  puts_woven block made n [] is js known new rest = rest
  puts_woven block made n (x ∷ xs) is js known new rest =
      let first : List Instr = fetches_of t n x in
      let later : List Instr = fetches_of_all t (next_after t n x) xs in
      let now : List ℕ = made_by_instrs made first in
      let more : AreWoven w m f block now is (later ++ js) =
      puts_woven block now (next_after t n x) xs is js
      (knows_more block made now (λ k l. made_grows first made k l) xs known.1)
      (λ j k l e. new j k (listed_right j first later l) e)
      (subst (λ (l : List ℕ). AreWoven w m f block l is js) (made_joined made first later) rest)
      in
      subst (λ (l : List Instr). AreWoven w m f block made is l) (sym (append_assoc first later js))
      (put_one block made n x (fetch_of t x) refl known.0
      (λ fetch e. new (fetch_into n fetch) n (listed_left (fetch_into n fetch) first later (subst (λ (o : Option Fetch). IsListed (fetch_into n fetch) (fetches_by n o)) (sym e) (inl refl))) (fetch_makes n fetch))
      is (later ++ js) more)

  pub has_made : (made : List ℕ) (js : List Instr) → AreNew js → (j : Instr) (k : ℕ) → IsListed j js → result_of j ≡ Some k → HasMade w (made_by_instrs made js) j k
  has_made made js new j k l e = let x = new j k l e in record { low = x.low; listed = made_contains made js j k l e; kind = x.kind }

  -- an instruction behind its fetches
  pub fetched_woven : (block : ℕ) (made : List ℕ) (n : ℕ) (i : Instr) (is js : List Instr) → Each (KnowsBase block made) (instr_operands i) → LeavesMarks t i → AreNew (fetches_of_all t n (instr_operands i)) → AreWoven w m f block (made_by (with_fetched t n i) ++ made_by_instrs made (fetches_of_all t n (instr_operands i))) is js → AreWoven w m f block made (i ∷ is) (fetched_instr t n i ++ js)
  fetched_woven block made n i is js known marks new rest =
      let fetches : List Instr = fetches_of_all t n (instr_operands i) in
      let now : List ℕ = made_by_instrs made fetches in
      subst (λ (l : List Instr). AreWoven w m f block made (i ∷ is) l) (sym (append_assoc fetches (with_fetched t n i ∷ []) js))
      (puts_woven block made n (instr_operands i) (i ∷ is) (with_fetched t n i ∷ js) known new
      (Remain now i (with_fetched t n i) is js (fetched_stays now n i (all_in_place now n (instr_operands i) (has_made made fetches new)) marks) rest))
