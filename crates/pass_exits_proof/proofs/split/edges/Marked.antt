-- No mark of a coroutine stands twice: it has one begin, each save has a suspend of its own, and each suspend a token of its own.
use Rattle.std.proofs.Common.{Bool, List, [], ap, append-nil, append_assoc, arith, false, inl, inr, length, refl, subst, suc, sym, true, zero, ℕ, ⊎_elim, ◌++◌, ◌+◌, ◌∙◌, ◌∷◌, ◌≡◌, ◌⊎◌}
use Rattle.std.specs.Prelude.{None, Option, Some, flat_map, if◌then◌else◌, option_to_list, replicate, slice_get}
use Rattle.pass_fetch_proof.proofs.ir_laws.facts.Lists.{row_of, set_at}
use Rattle.pass_fetch_proof.proofs.rule_laws.rules.source_rules.Locals.{same_result}
use Rattle.pass_fetch_proof.proofs.rule_laws.rules.source_rules.Once.{one_begin}
use Rattle.pass_fetch_proof.specs.flow_solver.Paths.{IsListed}
use Rattle.pass_fetch_proof.specs.frame_layout.declared.layout.Layout.{Layout}
use Rattle.pass_fetch_proof.specs.pass_intrinsics.Cuts.{cut_at, goes_on, marks_save, next_suspend, token_in, transfers}
use Rattle.pass_fetch_proof.specs.pass_intrinsics.Lowered.{number_at, number_of_save}
use Rattle.pass_fetch_proof.specs.pass_intrinsics.Shapes.{begun_label, pass_label, save_of, saved_label, saves_of, shape_of, suspends_of, with_save, with_saves, with_suspend, with_suspends_by, with_suspends_in}
use Rattle.pass_fetch_proof.specs.pass_intrinsics.declared.cuts.Cut.{Cut}
use Rattle.pass_fetch_proof.specs.pass_intrinsics.declared.shape.Part.{Part}
use Rattle.pass_fetch_proof.specs.pass_intrinsics.declared.shape.Shape.{Shape}
use Rattle.pass_fetch_proof.specs.pass_intrinsics.declared.shape.SuspendPoint.{SuspendPoint}
use Rattle.ir_model.specs.declared.instr.Instr.{Instr}
use Rattle.ir_model.specs.declared.module.Block.{Block}
use Rattle.ir_model.specs.declared.module.Function.{Function}
use Rattle.ir_model.specs.declared.module.Module.{Module}
use Rattle.ir_model.specs.declared.operand.Callee.{Callee}
use Rattle.ir_model.specs.declared.operand.Intrinsic.{Intrinsic}
use Rattle.pass_fetch_proof.specs.ir_paths.Windows.{instr_at, instr_in, is_call_of}
use Rattle.pass_fetch_proof.specs.ir_paths.declared.point.Point.{Point}
use Rattle.pass_exits_proof.proofs.split.edges.Cuttable.{Begun as BegunMark, IsMark, Passed as PassedMark, Saved as SavedMark}
use Rattle.pass_fetch_proof.proofs.ir_laws.paths.edges.Lists.{different_rows, different_there, from_row, listed_at, same_place, to_row}
use Rattle.pass_exits_proof.proofs.split.edges.Pieces.{block_marks, mark_of, site_marks, sites}
use Rattle.pass_fetch_proof.proofs.rule_laws.frames.replaced.Saves.{all_one, saves_below}
use Rattle.pass_exits_proof.specs.split.rules.Splittable.{IsSplittable}
use Rattle.pass_fetch_proof.specs.rule_laws.frames.replaced.Splittable.{token_taken, tokens_taken}
use Rattle.pass_fetch_proof.specs.run_laws.changed.Changed.{result_of}
use Rattle.pass_fetch_proof.specs.ir_laws.paths.woven_rules.Pairs.{AreDifferent}

-- ---- what makes a mark

-- a mark of an instruction, with those behind it: it is begin, a save of a suspend's number, or a resume right before a suspend of that number
pub data IsMarkAt (s : Shape) (i : Instr) (after : List Instr) (v : ℕ) : Type 0 where
  Begun : is_call_of Intrinsic.CoroBegin i ≡ true → v ≡ begun_label s → IsMarkAt s i after v
  Saved : (j r : ℕ) → result_of i ≡ Some r → number_of_save s (Some r) ≡ Some j → v ≡ saved_label s j → IsMarkAt s i after v
  Passed : (j t : ℕ) (k : Instr) → slice_get after 0 ≡ Some k → token_in k ≡ Some t → number_of_save s (Some t) ≡ Some j → v ≡ pass_label s j → IsMarkAt s i after v

alone_there : (v w : ℕ) → IsListed v (w ∷ []) → v ≡ w
alone_there v w (inl e) = e
alone_there v w (inr l) = absurd l

if_returns : (s : Shape) (v : ℕ) (b : Bool) → IsListed v (mark_of s (if b then Cut.Returns else Cut.Stays)) → ⊥
if_returns s v true l = l
if_returns s v false l = l

pub mark_at : (s : Shape) (part : Part) (i : Instr) (after : List Instr) (v : ℕ) → IsListed v (mark_of s (cut_at s part i after)) → IsMarkAt s i after v
mark_at s part (Instr.Call r must_tail ty (Callee.Intrinsic Intrinsic.CoroBegin) args) after v l = Begun refl (alone_there v (begun_label s) l)
mark_at s part (Instr.Call r must_tail ty (Callee.Intrinsic Intrinsic.CoroSave) args) after v l = on r refl (number_of_save s r) refl l
  where
    on : (o : Option ℕ) → r ≡ o → (n : Option ℕ) → number_of_save s r ≡ n → IsListed v (mark_of s (marks_save s n)) → IsMarkAt s (Instr.Call r must_tail ty (Callee.Intrinsic Intrinsic.CoroSave) args) after v
    on o d None e l = absurd l
    on None d (Some j) e l = let none : Some j ≡ None = sym e ∙ ap (number_of_save s) d in absurd (cc)
    on (Some n) d (Some j) e l = Saved j n d (ap (number_of_save s) (sym d) ∙ e) (alone_there v (saved_label s j) l)
mark_at s part (Instr.Call r must_tail ty (Callee.Intrinsic Intrinsic.CoroEnd) args) after v l = absurd (if_returns s v (goes_on part) l)
mark_at s part (Instr.Call r must_tail ty (Callee.Intrinsic Intrinsic.CoroResume) args) after v l = on (goes_on part) after refl l
  where
    found : (k : Instr) (ks : List Instr) → after ≡ k ∷ ks → (t : Option ℕ) → token_in k ≡ t → (n : Option ℕ) → number_of_save s (token_in k) ≡ n → IsListed v (mark_of s (transfers n)) → IsMarkAt s (Instr.Call r must_tail ty (Callee.Intrinsic Intrinsic.CoroResume) args) after v
    found k ks is t d None e l = absurd l
    found k ks is None d (Some j) e l = let none : Some j ≡ None = sym e ∙ ap (number_of_save s) d in absurd (cc)
    found k ks is (Some t) d (Some j) e l = Passed j t k (ap (λ (xs : List Instr). slice_get xs 0) is) d (ap (number_of_save s) (sym d) ∙ e) (alone_there v (pass_label s j) l)

    on : (b : Bool) (xs : List Instr) → after ≡ xs → IsListed v (mark_of s (if b then transfers (next_suspend s xs) else Cut.Stays)) → IsMarkAt s (Instr.Call r must_tail ty (Callee.Intrinsic Intrinsic.CoroResume) args) after v
    on false xs is l = absurd l
    on true [] is l = absurd l
    on true (k ∷ ks) is l = found k ks is (token_in k) refl (number_of_save s (token_in k)) refl l
mark_at s part (Instr.Call r must_tail ty (Callee.Intrinsic _) args) after v l = absurd l
mark_at s part _ after v l = absurd l

-- an instruction makes no mark twice
pub one_mark : (s : Shape) (c : Cut) → AreDifferent (mark_of s c)
one_mark s Cut.Stays = tt
one_mark s (Cut.Marks label) = (λ l. l, tt)
one_mark s Cut.Suspends = tt
one_mark s Cut.Returns = tt
one_mark s (Cut.Transfers j) = (λ l. l, tt)

-- where a site stands
pub site_at : (is : List Instr) (x : ℕ) (u : Instr × List Instr) → slice_get (sites is) x ≡ Some u → (slice_get is x ≡ Some u.0) × (slice_get u.1 0 ≡ slice_get is (suc x))
site_at [] x u e = absurd (cc)
site_at (i ∷ is) zero u e = let same : u ≡ (i, is) = cc in (ap (λ (y : Instr × List Instr). Some y.0) (sym same), ap (λ (y : Instr × List Instr). slice_get y.1 0) same)
site_at (i ∷ is) (suc x) u e = site_at is x u e

-- ---- saves

-- a number in the table is that of a suspend that takes the token
pub record IsSaveOf (ss : List SuspendPoint) (j r i : ℕ) : Type 0 where
  pub at : ℕ
  pub point : SuspendPoint
  pub number : i ≡ j + at
  pub stands : slice_get ss at ≡ Some point
  pub takes : point.save ≡ Some r

save_home : (table : List (Option ℕ)) (j : ℕ) (ss : List SuspendPoint) (r i : ℕ) → slice_get (with_saves table j ss) r ≡ Some (Some i) → (slice_get table r ≡ Some (Some i)) ⊎ IsSaveOf ss j r i
save_home table j [] r i e = inl e
save_home table j (p ∷ ps) r i e =
    ⊎_elim (λ d. on p.save refl d)
    (λ (y : IsSaveOf ps (j + 1) r i).
    let n : i ≡ j + 1 + y.at = y.number in
    inr (record { at = suc y.at; point = y.point; number = omega (arith, n); stands = y.stands; takes = y.takes }))
    (save_home (with_save table j p.save) (j + 1) ps r i e)
  where
    on : (o : Option ℕ) → p.save ≡ o → slice_get (with_save table j o) r ≡ Some (Some i) → (slice_get table r ≡ Some (Some i)) ⊎ IsSaveOf (p ∷ ps) j r i
    on None d e = inl e
    on (Some save) d e =
        ⊎_elim
        (λ (h : (r ≡ save) × (Some i ≡ Some j)).
        let some : Some i ≡ Some j = h.1 in
        let same : i ≡ j = cc in
        inr (record { at = 0; point = p; number = omega (arith, same); stands = refl; takes = d ∙ ap (λ (n : ℕ). Some n) (sym h.0) }))
        (λ h. inl h)
        (set_at table save (Some j) r (Some i) e)

pub save_is : (f : Function) (layout : Layout) (r j : ℕ) → number_of_save (shape_of f layout) (Some r) ≡ Some j → IsSaveOf (suspends_of f) 0 r j
save_is f layout r j e = on (slice_get (saves_of f (suspends_of f)) r) refl e
  where
    on : (o : Option (Option ℕ)) → slice_get (saves_of f (suspends_of f)) r ≡ o → number_at o ≡ Some j → IsSaveOf (suspends_of f) 0 r j
    on None d e = absurd (cc)
    on (Some None) d e = absurd (cc)
    on (Some (Some i)) d e =
        let same : i ≡ j = cc in
        subst (IsSaveOf (suspends_of f) 0 r) same
        (⊎_elim (λ h. let t : Some i ≡ None = all_one (length f.names) None r (Some i) h in absurd (cc)) (λ y. y) (save_home (replicate (length f.names) None) 0 (suspends_of f) r i d))

-- two tokens of one number are one
pub same_save : (f : Function) (layout : Layout) (r q j : ℕ) → number_of_save (shape_of f layout) (Some r) ≡ Some j → number_of_save (shape_of f layout) (Some q) ≡ Some j → r ≡ q
same_save f layout r q j d e =
    let x = save_is f layout r j d in
    let y = save_is f layout q j e in
    let a : j ≡ 0 + x.at = x.number in
    let b : j ≡ 0 + y.at = y.number in
    let at : x.at ≡ y.at = omega (arith, a, b) in
    let points : Some x.point ≡ Some y.point = sym x.stands ∙ ap (slice_get (suspends_of f)) at ∙ y.stands in
    let one : x.point ≡ y.point = cc in
    let both : Some r ≡ Some q = sym x.takes ∙ ap (λ (p : SuspendPoint). p.save) one ∙ y.takes in
    cc

-- ---- tokens

abbrev instr_token : Instr → List ℕ
instr_token i = option_to_list (token_in i)

abbrev block_tokens : Block → List ℕ
block_tokens b = row_of instr_token b.instrs

tokens_joined : (xs ys : List SuspendPoint) → flat_map token_taken (xs ++ ys) ≡ flat_map token_taken xs ++ flat_map token_taken ys
tokens_joined [] ys = refl
tokens_joined (x ∷ xs) ys = ap (λ (ns : List ℕ). token_taken x ++ ns) (tokens_joined xs ys) ∙ sym (append_assoc (token_taken x) (flat_map token_taken xs) (flat_map token_taken ys))

tokens_one : (all : List SuspendPoint) (b : Block) (i : Instr) → flat_map token_taken (with_suspend all b i) ≡ flat_map token_taken all ++ instr_token i
tokens_one all b (Instr.Call r must_tail ty (Callee.Intrinsic Intrinsic.CoroSuspend) args) = tokens_joined all _ ∙ ap (λ (ns : List ℕ). flat_map token_taken all ++ ns) (append-nil (option_to_list (save_of args)))
tokens_one all b _ = sym (append-nil (flat_map token_taken all))

tokens_in : (all : List SuspendPoint) (b : Block) (is : List Instr) → flat_map token_taken (with_suspends_in all b is) ≡ flat_map token_taken all ++ row_of instr_token is
tokens_in all b [] = sym (append-nil (flat_map token_taken all))
tokens_in all b (i ∷ is) =
    tokens_in (with_suspend all b i) b is
    ∙ ap (λ (ns : List ℕ). ns ++ row_of instr_token is) (tokens_one all b i)
    ∙ append_assoc (flat_map token_taken all) (instr_token i) (row_of instr_token is)

tokens_by : (all : List SuspendPoint) (bs : List Block) → flat_map token_taken (with_suspends_by all bs) ≡ flat_map token_taken all ++ row_of block_tokens bs
tokens_by all [] = sym (append-nil (flat_map token_taken all))
tokens_by all (b ∷ bs) =
    tokens_by (with_suspends_in all b b.instrs) bs
    ∙ ap (λ (ns : List ℕ). ns ++ row_of block_tokens bs) (tokens_in all b b.instrs)
    ∙ append_assoc (flat_map token_taken all) (block_tokens b) (row_of block_tokens bs)

tokens_are : (f : Function) → tokens_taken f ≡ row_of block_tokens f.blocks
tokens_are f = tokens_by [] f.blocks

has_token : (i : Instr) (t : ℕ) → token_in i ≡ Some t → IsListed t (instr_token i)
has_token i t e = subst (λ (o : Option ℕ). IsListed t (option_to_list o)) (sym e) (inl refl)

-- ---- no mark stands twice

module _ (m : Module) (k : ℕ) (f : Function) (begin : ℕ) (x : IsSplittable m k f begin) (layout : Layout) (part : Part) where
  abbrev s : Shape
  s = shape_of f layout

  tokens_apart : AreDifferent (row_of block_tokens f.blocks)
  tokens_apart = subst AreDifferent (tokens_are f) x.tokens

  abbrev point : ℕ → ℕ → Point
  point block at = record { block = block; at = at }

  -- suspends that take one token are one
  same_suspend : (n o : ℕ) (b c : Block) (y z : ℕ) (i j : Instr) (t : ℕ) → slice_get f.blocks n ≡ Some b → slice_get f.blocks o ≡ Some c → slice_get b.instrs y ≡ Some i → slice_get c.instrs z ≡ Some j → token_in i ≡ Some t → token_in j ≡ Some t → point n y ≡ point o z
  same_suspend n o b c y z i j t nb oc bi cj it jt =
      let here : IsListed t (block_tokens b) = to_row instr_token b.instrs i t (listed_at b.instrs y i bi) (has_token i t it) in
      let there : IsListed t (block_tokens c) = to_row instr_token c.instrs j t (listed_at c.instrs z j cj) (has_token j t jt) in
      let blocks : n ≡ o = same_place block_tokens f.blocks tokens_apart t n o b c nb oc here there in
      let got : Some b ≡ Some c = sym nb ∙ ap (slice_get f.blocks) blocks ∙ oc in
      let is_one : b ≡ c = cc in
      let own : AreDifferent (row_of instr_token c.instrs) = different_there block_tokens f.blocks tokens_apart o c oc in
      let ats : y ≡ z = same_place instr_token c.instrs own t y z i j (ap (λ (d : Block). slice_get d.instrs y) (sym is_one) ∙ bi) cj (has_token i t it) (has_token j t jt) in
      λ l. point (blocks l) (ats l)

  instr_there : (n : ℕ) (b : Block) (y : ℕ) (i : Instr) → slice_get f.blocks n ≡ Some b → slice_get b.instrs y ≡ Some i → instr_at f (point n y) ≡ Some i
  instr_there n b y i nb bi = ap (λ (o : Option Block). instr_in o y) nb ∙ bi

  -- a place with a site
  record IsSite (n : ℕ) (b : Block) (y : ℕ) (u : Instr × List Instr) : Type 0 where
    block : slice_get f.blocks n ≡ Some b
    site : slice_get (sites b.instrs) y ≡ Some u

  same_mark : (n o : ℕ) (b c : Block) (y z : ℕ) (u w : Instr × List Instr) (v : ℕ) → IsSite n b y u → IsSite o c z w → IsMarkAt s u.0 u.1 v → IsMarkAt s w.0 w.1 v → point n y ≡ point o z
  same_mark n o b c y z u w v h g (Begun a d) (Begun e q) =
      one_begin k f x.coroutine x.calls (point n y) (point o z) u.0 w.0 (instr_there n b y u.0 h.block (site_at b.instrs y u h.site).0) (instr_there o c z w.0 g.block (site_at c.instrs z w g.site).0) a e
  same_mark n o b c y z u w v h g (Saved j r a d e) (Saved i q aa dd ee) =
      let same : j ≡ i = omega (arith, e, ee) in
      let one : r ≡ q = same_save f layout r q j d (dd ∙ ap (λ (l : ℕ). Some l) (sym same)) in
      same_result k f x.rules.definitions (point n y) (point o z) u.0 w.0 r (instr_there n b y u.0 h.block (site_at b.instrs y u h.site).0) (instr_there o c z w.0 g.block (site_at c.instrs z w g.site).0) a (aa ∙ ap (λ (l : ℕ). Some l) (sym one))
  same_mark n o b c y z u w v h g (Passed j t p a d e q) (Passed jj tn pp aa dd ee qq) =
      let same : j ≡ jj = omega (arith, q, qq) in
      let one : t ≡ tn = same_save f layout t tn j e (ee ∙ ap (λ (l : ℕ). Some l) (sym same)) in
      let next : point n (suc y) ≡ point o (suc z) =
      same_suspend n o b c (suc y) (suc z) p pp t h.block g.block (sym (site_at b.instrs y u h.site).1 ∙ a) (sym (site_at c.instrs z w g.site).1 ∙ aa) d (dd ∙ ap (λ (l : ℕ). Some l) (sym one)) in
      let ats : suc y ≡ suc z = ap (λ (l : Point). l.at) next in
      let at : y ≡ z = omega (arith, ats) in
      λ l. point ((next l).block) (at l)
  same_mark n o b c y z u w v h g (Begun a d) (Saved j r aa dd ee) = absurd (omega (arith, d, ee))
  same_mark n o b c y z u w v h g (Begun a d) (Passed j t p aa dd ee qq) = absurd (omega (arith, d, qq))
  same_mark n o b c y z u w v h g (Saved j r a d e) (Begun aa dd) = absurd (omega (arith, e, dd))
  same_mark n o b c y z u w v h g (Saved j r a d e) (Passed i t p aa dd ee qq) = absurd (omega (arith, e, qq))
  same_mark n o b c y z u w v h g (Passed j t p a d e q) (Begun aa dd) = absurd (omega (arith, q, dd))
  same_mark n o b c y z u w v h g (Passed j t p a d e q) (Saved i r aa dd ee) = absurd (omega (arith, q, ee))

  at_site : (n : ℕ) (b : Block) (y : ℕ) (u : Instr × List Instr) → slice_get f.blocks n ≡ Some b → slice_get (sites b.instrs) y ≡ Some u → IsSite n b y u
  at_site n b y u d e = record { block = d; site = e }

  pub marks_different : AreDifferent (row_of (block_marks s part) f.blocks)
  marks_different =
      different_rows (block_marks s part) f.blocks
      (λ n b d. different_rows (site_marks s part) (sites b.instrs) (λ y u e. one_mark s (cut_at s part u.0 u.1))
      (λ y z u w v e g a aa. ap (λ (p : Point). p.at) (same_mark n n b b y z u w v (at_site n b y u d e) (at_site n b z w d g) (mark_at s part u.0 u.1 v a) (mark_at s part w.0 w.1 v aa))))
      (λ n o b c v d e a aa.
      let y = from_row (site_marks s part) (sites b.instrs) v a in
      let z = from_row (site_marks s part) (sites c.instrs) v aa in
      ap (λ (p : Point). p.block) (same_mark n o b c y.place z.place y.element z.element v (at_site n b y.place y.element d y.stands) (at_site o c z.place z.element e z.stands) (mark_at s part y.element.0 y.element.1 v y.has) (mark_at s part z.element.0 z.element.1 v z.has)))

  mark_kind : (i : Instr) (after : List Instr) (v : ℕ) → IsMarkAt s i after v → IsMark s v
  mark_kind i after v (Begun a e) = BegunMark e
  mark_kind i after v (Saved j r a d e) = SavedMark j (saves_below f layout (Some r) j d) e
  mark_kind i after v (Passed j t p a d e q) = PassedMark j (saves_below f layout (Some t) j e) q

  pub are_marks : (v : ℕ) → IsListed v (row_of (block_marks s part) f.blocks) → IsMark s v
  are_marks v l =
      let y = from_row (block_marks s part) f.blocks v l in
      let z = from_row (site_marks s part) (sites y.element.instrs) v y.has in
      mark_kind z.element.0 z.element.1 v (mark_at s part z.element.0 z.element.1 v z.has)
