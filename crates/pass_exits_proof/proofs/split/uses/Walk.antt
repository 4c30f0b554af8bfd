-- A value that isn't used on paths of a function isn't used on paths of its part.
use Rattle.std.proofs.Common.{◌≡◌, inl, inr, ⊎_elim, ℕ, ◌+◌, Bool, true, false, List, [], ◌∷◌, refl, sym, ap, ◌∙◌, subst}
use Rattle.std.specs.Prelude.{None, Some, map, slice_get, ◌==◌, if◌then◌else◌}
use Rattle.pass_fetch_proof.proofs.ir_laws.paths.crossing.Spots.{Spot, listed_or, spot_first, spot_next}
use Rattle.pass_fetch_proof.specs.ir_laws.facts.crossing.Crossed.{is_switch}
use Rattle.pass_split.specs.Parts.{back_block, done_block, or_zero}
use Rattle.pass_split.specs.Pieces.{going_on, origin_in, pass_block, pieced_phi, redirected, redirected_case, redirected_term, stop_label}
use Rattle.pass_split.specs.declared.origin.Origin.{Origin}
use Rattle.pass_fetch_proof.specs.rule_uses.Uses.{locals_in, made_by_instrs, made_by_phis, phi_values}
use Rattle.pass_fetch_proof.proofs.ir_laws.facts.Truth.{equal_numbers}
use Rattle.pass_fetch_proof.proofs.ir_laws.facts.Members.{each_right}
use Rattle.pass_fetch_proof.proofs.ir_laws.paths.source_rules.Locals.{Apart}
use Rattle.pass_fetch_proof.proofs.rule_laws.rules.source_rules.Locals.{made_by}
use Rattle.pass_fetch_proof.proofs.ir_laws.facts.Lists.{row_of}
use Rattle.pass_fetch_proof.specs.flow_solver.Paths.{IsListed}
use Rattle.pass_fetch_proof.specs.ir_parts.Contents.{ending_operands}
use Rattle.pass_fetch_proof.specs.pass_intrinsics.Cuts.{cut_at}
use Rattle.pass_fetch_proof.specs.pass_intrinsics.Lowered.{lowered, names_taken}
use Rattle.pass_fetch_proof.specs.pass_intrinsics.Shapes.{back_label, done_label, pass_label}
use Rattle.pass_fetch_proof.specs.pass_intrinsics.declared.cuts.Cut.{Cut}
use Rattle.pass_fetch_proof.specs.pass_intrinsics.declared.shape.Part.{Part}
use Rattle.pass_fetch_proof.specs.pass_intrinsics.declared.shape.Shape.{Shape}
use Rattle.pass_fetch_proof.specs.pass_intrinsics.declared.shape.SuspendPoint.{SuspendPoint}
use Rattle.ir_model.specs.Names.{position_of}
use Rattle.ir_model.specs.declared.instr.Case.{Case}
use Rattle.ir_model.specs.declared.instr.Instr.{Instr}
use Rattle.ir_model.specs.declared.instr.Phi.{Phi}
use Rattle.ir_model.specs.declared.instr.Terminator.{Terminator}
use Rattle.ir_model.specs.declared.module.Block.{Block}
use Rattle.ir_model.specs.declared.module.Function.{Function}
use Rattle.ir_model.specs.declared.operand.Callee.{Callee}
use Rattle.ir_model.specs.declared.operand.Intrinsic.{Intrinsic}
use Rattle.ir_model.specs.declared.operand.Operand.{Operand}
use Rattle.pass_fetch_proof.specs.ir_paths.Paths.{targets}
use Rattle.pass_fetch_proof.proofs.rule_laws.frames.uses.Lowering.{ComesBy, IsLowered}
use Rattle.pass_fetch_proof.proofs.rule_laws.rules.uses.Plain.{IsPlain}
use Rattle.pass_fetch_proof.proofs.rule_laws.frames.uses.Quiet.{AreTold, IsQuiet, suspends}
use Rattle.pass_exits_proof.proofs.split.uses.Sources.{HasPieces, IsFirst, NoSuspends, ends_suspended, first_piece, origin_begins, origin_marks, origin_returns, origin_stays, passes_on, piece_there}
use Rattle.pass_fetch_proof.proofs.ir_laws.paths.uses.Sources.{IsIn}
use Rattle.pass_fetch_proof.proofs.ir_laws.facts.Numbers.{Source}
use Rattle.pass_fetch_proof.proofs.ir_laws.facts.uses.Sources.{label_of}
use Rattle.pass_fetch_proof.proofs.rule_laws.rules.uses.Unused.{IsUnused}
use Rattle.pass_fetch_proof.proofs.rule_laws.frames.uses.Unused.{all_unused, joined_made, row_made, still_made, unused_joined, unused_made}
use Rattle.pass_exits_proof.proofs.split.rules.Local.{same_term_operands}
use Rattle.pass_exits_proof.specs.split.rules.Pieced.{ArePieces, BeginsAgain, Ends, Marks, Returns, Stays, Suspends, Transfers}
use Rattle.pass_fetch_proof.specs.run_laws.changed.Changed.{Each}

-- A function whose blocks are cut into pieces, with what stands in front of them: what the rules say of its blocks, where its edges lead, and that labels tell blocks apart.
pub record IsCutUp (f h : Function) (s : Shape) (part : Part) (origins : List Origin) (head : List Block) (css : List (List Block)) : Type 0 where
  pub pieces : (q : ℕ) (b : Block) → slice_get h.blocks q ≡ Some b → HasPieces s part origins css q b
  pub told : (q : ℕ) (b : Block) → slice_get h.blocks q ≡ Some b → AreTold f s part b.instrs b.term
  pub there : (q : ℕ) (b : Block) (label : ℕ) → slice_get h.blocks q ≡ Some b → IsListed label (targets b.term) → (c : Block) × ((slice_get h.blocks (position_of h label) ≡ Some c) × (c.label ≡ label))
  pub own : (q : ℕ) (b : Block) → slice_get h.blocks q ≡ Some b → position_of h b.label ≡ q
  pub blocks : (q : ℕ) (cs : List Block) → slice_get css q ≡ Some cs → (b : Block) × (slice_get h.blocks q ≡ Some b)
  pub end : (c : Block) × ((slice_get h.blocks (position_of h s.end) ≡ Some c) × (c.label ≡ s.end))
  pub one : (x y : Source) (c d : Block) → IsIn head css (done_block s) x c → IsIn head css (done_block s) y d → c.label ≡ d.label → (x ≡ y) × (c ≡ d)

module _ (f h : Function) (s : Shape) (part : Part) (origins : List Origin) (head : List Block) (css : List (List Block)) (cut : IsCutUp f h s part origins head css) (v : ℕ) (comes : (i : Instr) → ComesBy f s part i v → IsPlain f v) (A : ℕ → Type 0) (N : ℕ → ℕ → Block → List Instr → Type 0) (quiet : IsQuiet f h s part v A N) where
  abbrev pub InPart : Source → Block → Type 0
  InPart = IsIn head css (done_block s)

  abbrev pub AllIn : ℕ → List Block → Type 0
  AllIn q cs = (c : Block) → IsListed c cs → InPart (Source.Of q) c

  -- A path without the value comes to a block of the part: what is then said of the function.
  pub data Arrives : Source → Block → Type 0 where
    AtFront : (q : ℕ) (b first : Block) (rest : List Block) (n last : ℕ) → slice_get h.blocks q ≡ Some b → AllIn q (first ∷ rest) → ArePieces s part b.term b.label (map (pieced_phi s part origins b.label) b.phis) n b.instrs (first ∷ rest) last → Apart (map label_of (first ∷ rest)) → (IsPlain f v → A q) → Arrives (Source.Of q) first
    AtPiece : (q at : ℕ) (b first : Block) (rest : List Block) (is : List Instr) (mark n last : ℕ) → Spot h q at b is → AllIn q (first ∷ rest) → ArePieces s part b.term mark [] n is (first ∷ rest) last → Apart (map label_of (first ∷ rest)) → AreTold f s part is b.term → origin_in s part (Origin.Piece b.label) b.instrs ≡ origin_in s part (Origin.Piece mark) is → (IsPlain f v → N q at b is) → Arrives (Source.Of q) first
    AtPass : (q at : ℕ) (b : Block) (i : Instr) (is : List Instr) (n j : ℕ) → Spot h q at b (i ∷ is) → IsLowered f s part i → cut_at s part i is ≡ Cut.Transfers j → InPart (Source.Of q) (pass_block (pass_label s j) (lowered s part n i)) → (IsPlain f v → N q at b (i ∷ is)) → Arrives (Source.Of q) (pass_block (pass_label s j) (lowered s part n i))
    AtDone : (IsPlain f v → A (position_of h s.end)) → Arrives Source.Last (done_block s)
    AtBack : (j : ℕ) (p : SuspendPoint) (c : Block) → slice_get h.blocks (position_of h (or_zero (going_on part (Some p)))) ≡ Some c → c.label ≡ or_zero (going_on part (Some p)) → IsListed (back_block s part j p) head → (IsPlain f v → A (position_of h (or_zero (going_on part (Some p))))) → Arrives Source.Head (back_block s part j p)
    AtStop : (c : Block) → IsListed c head → c.instrs ≡ [] → c.term ≡ Terminator.Unreachable → Arrives Source.Head c

  -- the place behind all instructions of a block
  pub record IsAtEnd (q : ℕ) (b : Block) : Type 0 where
    pub at : ℕ
    pub spot : Spot h q at b []
    pub holds : N q at b []

  -- a block of the part that doesn't make the value doesn't use it at its end, and where it leads what is said of the function holds on
  pub record IsLeft (x : Source) (label : ℕ) (t : Terminator) : Type 0 where
    pub operands : IsListed v (locals_in (ending_operands t)) → ⊥
    pub next : (l : ℕ) → IsListed l (targets t) → (y : Source) (d : Block) → InPart y d → d.label ≡ l → Arrives y d
    pub ends : (q : ℕ) (b : Block) → slice_get h.blocks q ≡ Some b → NoSuspends b.instrs → origin_in s part (Origin.Piece b.label) b.instrs ≡ Origin.Piece label → IsPlain f v → IsAtEnd q b

  pub record IsWalked (x : Source) (before : List ℕ) (c : Block) : Type 0 where
    pub uses : IsUnused v before c.instrs
    pub last : (IsListed v (made_by_instrs before c.instrs) → ⊥) → IsLeft x c.label c.term

  made_already : (x : Source) (before : List ℕ) (c : Block) → IsListed v before → IsWalked x before c
  made_already x before c l = record { uses = unused_made v before c.instrs l; last = λ none. absurd (none (still_made v before c.instrs l)) }

  -- ---- arriving at a block of a label

  at_front : (label : ℕ) (c : Block) → slice_get h.blocks (position_of h label) ≡ Some c → c.label ≡ label → (IsPlain f v → A (position_of h label)) → (y : Source) (d : Block) → InPart y d → d.label ≡ label → Arrives y d
  at_front label c got is a y d l e =
      let p = cut.pieces (position_of h label) c got in
      let all : AllIn (position_of h label) (p.first ∷ p.rest) = λ x m. (p.first ∷ p.rest, (p.there, m)) in
      let x = first_piece s part c.term c.label (map (pieced_phi s part origins c.label) c.phis) p.new p.last c.instrs (p.first ∷ p.rest) p.pieces in
      let first_is : p.first ≡ x.first = (let both : p.first ∷ p.rest ≡ x.first ∷ x.rest = x.is in cc) in
      let same = cut.one (Source.Of (position_of h label)) y p.first d (all p.first (inl refl)) l (ap label_of first_is ∙ x.label_is ∙ is ∙ sym e) in
      subst (λ (z : Source). Arrives z d) same.0 (subst (λ (z : Block). Arrives (Source.Of (position_of h label)) z) same.1 (AtFront (position_of h label) c p.first p.rest p.new p.last got all p.pieces p.apart a))

  at_done : (IsPlain f v → A (position_of h s.end)) → (y : Source) (d : Block) → InPart y d → d.label ≡ done_label s → Arrives y d
  at_done a y d l e =
      let same = cut.one Source.Last y (done_block s) d refl l (sym e) in
      subst (λ (z : Source). Arrives z d) same.0 (subst (λ (z : Block). Arrives Source.Last z) same.1 (AtDone a))

  -- an edge that may be redirected
  pub redirects : (label : ℕ) (c : Block) → slice_get h.blocks (position_of h label) ≡ Some c → c.label ≡ label → (IsPlain f v → A (position_of h label)) → (y : Source) (d : Block) → InPart y d → d.label ≡ redirected s label → Arrives y d
  redirects label c got is a y d l e = on (label == s.end) refl e
    where
      on : (b : Bool) → (label == s.end) ≡ b → d.label ≡ (if b then done_label s else label) → Arrives y d
      on true k e = at_done (λ p. subst (λ (n : ℕ). A (position_of h n)) (equal_numbers label s.end k) (a p)) y d l e
      on false k e = at_front label c got is a y d l e

  cases_lead : (cases : List Case) (l : ℕ) → IsListed l (map (λ k. k.target) (map (redirected_case s) cases)) → (label : ℕ) × (IsListed label (map (λ k. k.target) cases) × (l ≡ redirected s label))
  cases_lead [] l h = absurd h
  cases_lead (k ∷ cases) l (inl e) = (k.target, (inl refl, e))
  cases_lead (k ∷ cases) l (inr h) = let x = cases_lead cases l h in (x.0, (inr x.1.0, x.1.1))

  term_leads : (t : Terminator) (l : ℕ) → IsListed l (targets (redirected_term s t)) → (label : ℕ) × (IsListed label (targets t) × (l ≡ redirected s label))
  term_leads (Terminator.Jump label) l (inl e) = (label, (inl refl, e))
  term_leads (Terminator.Jump label) l (inr h) = absurd h
  term_leads (Terminator.Branch c a b) l (inl e) = (a, (inl refl, e))
  term_leads (Terminator.Branch c a b) l (inr (inl e)) = (b, (inr (inl refl), e))
  term_leads (Terminator.Branch c a b) l (inr (inr h)) = absurd h
  term_leads (Terminator.Switch arg default cases) l (inl e) = (default, (inl refl, e))
  term_leads (Terminator.Switch arg default cases) l (inr h) = let x = cases_lead cases l h in (x.0, (inr x.1.0, x.1.1))
  term_leads (Terminator.Ret value) l h = absurd h
  term_leads Terminator.Unreachable l h = absurd h

  stop_leads : (t : Terminator) → is_switch t ≡ true → IsListed (stop_label t) (targets t)
  stop_leads (Terminator.Switch arg default cases) e = inl refl
  stop_leads (Terminator.Jump label) e = absurd (cc)
  stop_leads (Terminator.Branch c a b) e = absurd (cc)
  stop_leads (Terminator.Ret value) e = absurd (cc)
  stop_leads Terminator.Unreachable e = absurd (cc)

  -- ---- along the pieces of a block

  abbrev Tail : List Block → List Block
  Tail [] = []
  Tail (c ∷ cs) = cs

  module _ (q : ℕ) (b : Block) where
    abbrev WalkedFirst : List ℕ → List Block → Type 0
    WalkedFirst before [] = Unit {0}
    WalkedFirst before (c ∷ cs) = IsWalked (Source.Of q) before c

    abbrev Whole : Origin
    Whole = origin_in s part (Origin.Piece b.label) b.instrs

    -- another block with the origin of a piece of this one is this one
    same_block : (c : Block) (label : ℕ) → InPart (Source.Of q) c → c.label ≡ label → slice_get h.blocks q ≡ Some b → (q0 : ℕ) (b0 : Block) → slice_get h.blocks q0 ≡ Some b0 → NoSuspends b0.instrs → origin_in s part (Origin.Piece b0.label) b0.instrs ≡ Origin.Piece label → (q ≡ q0) × (b ≡ b0)
    same_block c label l is got q0 b0 got0 none o =
        let p = cut.pieces q0 b0 got0 in
        let x = piece_there s part b0.term b0.label (map (pieced_phi s part origins b0.label) b0.phis) p.new p.last b0.instrs (p.first ∷ p.rest) p.pieces none label o in
        let same = cut.one (Source.Of q) (Source.Of q0) c x.0 l (p.first ∷ p.rest, (p.there, x.1.0)) (is ∙ sym x.1.1) in
        let source : Source.Of q ≡ Source.Of q0 = same.0 in
        let at : q ≡ q0 = cc in
        let both : Some b ≡ Some b0 = sym got ∙ ap (slice_get h.blocks) at ∙ got0 in
        (at, cc)

    none_left : (at : ℕ) (is : List Instr) → Spot h q at b is → NoSuspends b.instrs → NoSuspends is
    none_left at is spot none = each_right (λ (i : Instr). suspends i ≡ false) spot.ahead is (subst (Each (λ (i : Instr). suspends i ≡ false)) spot.is none)

    -- where the block goes on behind a piece, or ends before its terminator, no edges come from that piece
    no_ends : (label : ℕ) (c : Block) → InPart (Source.Of q) c → c.label ≡ label → slice_get h.blocks q ≡ Some b → (NoSuspends b.instrs → Whole ≡ Origin.Piece label → ⊥) → (q0 : ℕ) (b0 : Block) → slice_get h.blocks q0 ≡ Some b0 → NoSuspends b0.instrs → origin_in s part (Origin.Piece b0.label) b0.instrs ≡ Origin.Piece label → IsPlain f v → IsAtEnd q0 b0
    no_ends label c l is got never q0 b0 got0 none o plain =
        let same = same_block c label l is got q0 b0 got0 none o in
        absurd (never (subst (λ (x : Block). NoSuspends x.instrs) (sym same.1) none) (subst (λ (x : Block). origin_in s part (Origin.Piece x.label) x.instrs ≡ Origin.Piece label) (sym same.1) o))

    label_listed : (cs : List Block) (c : Block) → IsListed c cs → IsListed c.label (map label_of cs)
    label_listed [] c l = absurd l
    label_listed (d ∷ cs) c (inl e) = inl (ap label_of e)
    label_listed (d ∷ cs) c (inr l) = inr (label_listed cs c l)

    nothing_leads : (x : Source) (label : ℕ) (t : Terminator) → targets t ≡ [] → locals_in (ending_operands t) ≡ [] → ((q0 : ℕ) (b0 : Block) → slice_get h.blocks q0 ≡ Some b0 → NoSuspends b0.instrs → origin_in s part (Origin.Piece b0.label) b0.instrs ≡ Origin.Piece label → IsPlain f v → IsAtEnd q0 b0) → IsLeft x label t
    nothing_leads x label t none empty ends = record { operands = λ l. subst (IsListed v) empty l; next = λ l m. absurd (subst (IsListed l) none m); ends = ends }

    jump_left : (x : Source) (label to : ℕ) → ((y : Source) (d : Block) → InPart y d → d.label ≡ to → Arrives y d) → ((q0 : ℕ) (b0 : Block) → slice_get h.blocks q0 ≡ Some b0 → NoSuspends b0.instrs → origin_in s part (Origin.Piece b0.label) b0.instrs ≡ Origin.Piece label → IsPlain f v → IsAtEnd q0 b0) → IsLeft x label (Terminator.Jump to)
    jump_left x label to arrives ends = record { operands = λ l. l; next = λ l m. on l m; ends = ends }
      where
        on : (l : ℕ) → IsListed l (to ∷ []) → (y : Source) (d : Block) → InPart y d → d.label ≡ l → Arrives y d
        on l (inl e) y d k is = arrives y d k (is ∙ e)
        on l (inr none) y d k is = absurd none

    suspend_cuts : (i : Instr) (is : List Instr) → suspends i ≡ true → cut_at s part i is ≡ Cut.Suspends
    suspend_cuts (Instr.Call r must_tail ty (Callee.Intrinsic Intrinsic.CoroSuspend) args) is e = refl
    suspend_cuts _ is e = absurd (cc)

    not_suspend : (i : Instr) (is : List Instr) (c : Cut) → cut_at s part i is ≡ c → (c ≡ Cut.Suspends → ⊥) → suspends i ≡ false
    not_suspend i is c d other = on (suspends i) refl
      where
        on : (b : Bool) → suspends i ≡ b → b ≡ false
        on true e = absurd (other (sym d ∙ suspend_cuts i is e))
        on false e = refl

    suspend_empty : (n : ℕ) (i : Instr) → suspends i ≡ true → lowered s part n i ≡ []
    suspend_empty n (Instr.Call r must_tail ty (Callee.Intrinsic Intrinsic.CoroSuspend) args) e = refl
    suspend_empty n _ e = absurd (cc)

    abbrev Here : ℕ → Type 0
    Here label = (c : Block) × (InPart (Source.Of q) c × (c.label ≡ label))

    abbrev TailIn : List Block → Type 0
    TailIn cs = (c : Block) → IsListed c (Tail cs) → InPart (Source.Of q) c

    walk : (label n last : ℕ) (phis : List Phi) (is : List Instr) (cs : List Block) → ArePieces s part b.term label phis n is cs last → (at : ℕ) → Spot h q at b is → AreTold f s part is b.term → Whole ≡ origin_in s part (Origin.Piece label) is → Apart (map label_of cs) → TailIn cs → Here label → (IsPlain f v → N q at b is) → (before : List ℕ) → WalkedFirst before cs
    walk _ _ _ _ _ _ (Ends label n phis) at spot told whole apart all here k before =
        record {
          uses = tt;
          last = λ none.
              record {
                operands = λ l. let own : IsListed v (locals_in (ending_operands b.term)) = subst (λ (xs : List Operand). IsListed v (locals_in xs)) (same_term_operands s b.term) l in quiet.term q at b spot (k (told v own)) own;
                next = λ l m y d in_part is.
                    let x = term_leads b.term l m in
                    let c = cut.there q b x.0 spot.got x.1.0 in
                    redirects x.0 c.0 c.1.0 c.1.1 (λ p. quiet.edge q at b spot (k p) x.0 x.1.0) y d in_part (is ∙ x.1.1);
                ends = λ q0 b0 got0 none0 o plain.
                    let same = same_block here.0 label here.1.0 here.1.1 spot.got q0 b0 got0 none0 o in
                    subst (λ (x : ℕ). IsAtEnd x b0) same.0 (subst (λ (x : Block). IsAtEnd q x) same.1 (record { at = at; spot = spot; holds = k plain }));
              };
        }
    walk _ _ _ _ _ _ (Stays label n last phis i is c cs again d more) at spot told whole apart all here k before =
        let js : List Instr = lowered s part n i in
        let goes : cut_at s part i is ≡ Cut.Returns → ⊥ = λ e. let both : Cut.Stays ≡ Cut.Returns = sym d ∙ e in absurd (cc) in
        let quiet_suspend : suspends i ≡ false = not_suspend i is Cut.Stays d (λ e. absurd (cc)) in
        let own : IsUnused v before js = all_unused v f s part i before js (told.0.uses n) (λ unmade by. quiet.used q at b i is spot (k (comes i by)) goes by) in
        ⊎_elim
        (λ made. record { uses = unused_joined v before js c.instrs own (unused_made v (made_by_instrs before js) c.instrs made); last = λ none. absurd (none (joined_made v before js c.instrs (still_made v (made_by_instrs before js) c.instrs made))) })
        (λ unmade.
        let w : IsWalked (Source.Of q) (made_by_instrs before js) c =
        walk label _ last phis is (c ∷ cs) more (at + 1) (spot_next h q at b i is spot) (told.1.1 quiet_suspend) (whole ∙ origin_stays s part label i is again d) apart all here
        (λ p. quiet.next q at b i is spot (k p) goes (λ e. unmade (row_made v before js (told.0.makes n v e p)))) (made_by_instrs before js) in
        record { uses = unused_joined v before js c.instrs own w.uses; last = λ none. w.last (λ l. none (joined_made v before js c.instrs l)) })
        (listed_or v (made_by_instrs before js))
    walk _ _ _ _ _ _ (Marks label n last mark phis i is cs again d more) at spot told whole apart all here k before =
        let js : List Instr = lowered s part n i in
        let goes : cut_at s part i is ≡ Cut.Returns → ⊥ = λ e. let both : Cut.Marks mark ≡ Cut.Returns = sym d ∙ e in absurd (cc) in
        let quiet_suspend : suspends i ≡ false = not_suspend i is (Cut.Marks mark) d (λ e. absurd (cc)) in
        let origin : Whole ≡ origin_in s part (Origin.Piece mark) is = whole ∙ origin_marks s part label mark i is again d in
        let spot_behind : Spot h q (at + 1) b is = spot_next h q at b i is spot in
        let x : IsFirst mark [] cs = first_piece s part b.term mark [] _ last is cs more in
        let first_in : InPart (Source.Of q) x.first = all x.first (subst (IsListed x.first) (sym x.is) (inl refl)) in
        record {
          uses = all_unused v f s part i before js (told.0.uses n) (λ unmade by. quiet.used q at b i is spot (k (comes i by)) goes by);
          last = λ none.
              jump_left (Source.Of q) label mark
              (λ y e in_part is_mark.
              let same = cut.one (Source.Of q) y x.first e first_in in_part (x.label_is ∙ sym is_mark) in
              let there : Arrives (Source.Of q) x.first =
              AtPiece q (at + 1) b x.first x.rest is mark _ last spot_behind (λ c l. all c (subst (IsListed c) (sym x.is) l)) (subst (λ (ds : List Block). ArePieces s part b.term mark [] (n + names_taken i) is ds last) x.is more)
              (subst (λ (ds : List Block). Apart (map label_of ds)) x.is apart.1) (told.1.1 quiet_suspend) origin
              (λ p. quiet.next q at b i is spot (k p) goes (λ made. none (row_made v before js (told.0.makes n v made p)))) in
              subst (λ (z : Source). Arrives z e) same.0 (subst (λ (z : Block). Arrives (Source.Of q) z) same.1 there))
              (no_ends label here.0 here.1.0 here.1.1 spot.got
              (λ nos o.
              let c = piece_there s part b.term mark [] _ last is cs more (none_left (at + 1) is spot_behind nos) label (sym origin ∙ o) in
              apart.0 (subst (λ (m : ℕ). IsListed m (map label_of cs)) c.1.1 (label_listed cs c.0 c.1.0))));
        }
    walk _ _ _ _ _ _ (Suspends label n phis i is again d) at spot told whole apart all here k before =
        let suspended : suspends i ≡ true = ends_suspended s part i is d in
        let last_one = told.1.0 suspended in
        let goes : cut_at s part i is ≡ Cut.Returns → ⊥ = λ e. let both : Cut.Suspends ≡ Cut.Returns = sym d ∙ e in absurd (cc) in
        let c = cut.there q b (stop_label b.term) spot.got (stop_leads b.term last_one.1) in
        let spot_behind : Spot h q (at + 1) b [] = subst (Spot h q (at + 1) b) last_one.0 (spot_next h q at b i is spot) in
        record {
          uses = tt;
          last = λ none.
              jump_left (Source.Of q) label (stop_label b.term)
              (at_front (stop_label b.term) c.0 c.1.0 c.1.1
              (λ p. quiet.edge q (at + 1) b spot_behind
              (subst (λ (js : List Instr). N q (at + 1) b js) last_one.0
              (quiet.next q at b i is spot (k p) goes (λ made. subst (λ (js : List Instr). IsListed v (row_of made_by js)) (suspend_empty 0 i suspended) (told.0.makes 0 v made p))))
              (stop_label b.term) (stop_leads b.term last_one.1)))
              (no_ends label here.0 here.1.0 here.1.1 spot.got (λ nos o. let both : true ≡ false = sym suspended ∙ (none_left at (i ∷ is) spot nos).0 in absurd (cc)));
        }
    walk _ _ _ _ _ _ (Returns label n phis i is again d) at spot told whole apart all here k before =
        record {
          uses = tt;
          last = λ none. nothing_leads (Source.Of q) label (Terminator.Ret None) refl refl (no_ends label here.0 here.1.0 here.1.1 spot.got (λ nos o. origin_returns s part label label i is again d (sym whole ∙ o)));
        }
    walk _ _ _ _ _ _ (Transfers label n j phis i is again d) at spot told whole apart all here k before =
        let pass : Block = pass_block (pass_label s j) (lowered s part n i) in
        let pass_in : InPart (Source.Of q) pass = all pass (inl refl) in
        record {
          uses = tt;
          last = λ none.
              jump_left (Source.Of q) label (pass_label s j)
              (λ y e in_part is_pass.
              let same = cut.one (Source.Of q) y pass e pass_in in_part (sym is_pass) in
              subst (λ (z : Source). Arrives z e) same.0 (subst (λ (z : Block). Arrives (Source.Of q) z) same.1 (AtPass q at b i is n j spot told.0 d pass_in k)))
              (no_ends label here.0 here.1.0 here.1.1 spot.got (λ nos o. passes_on s part j i is d (none_left at (i ∷ is) spot nos).1));
        }
    walk _ _ _ _ _ _ (BeginsAgain label n phis i is again) at spot told whole apart all here k before =
        record {
          uses = tt;
          last = λ none. nothing_leads (Source.Of q) label Terminator.Unreachable refl refl (no_ends label here.0 here.1.0 here.1.1 spot.got (λ nos o. origin_begins s part label label i is again (sym whole ∙ o)));
        }

  -- ---- at each block of the part

  pieced_values : (label : ℕ) (before : List ℕ) (ps : List Phi) → made_by_phis before (map (pieced_phi s part origins label) ps) ≡ made_by_phis before ps
  pieced_values label before [] = refl
  pieced_values label before (p ∷ ps) = pieced_values label (p.result ∷ before) ps

  -- a block that is no piece is no block's last piece
  pub no_piece : (x : Source) (c : Block) → InPart x c → ((q : ℕ) → x ≡ Source.Of q → ⊥) → (q0 : ℕ) (b0 : Block) → slice_get h.blocks q0 ≡ Some b0 → NoSuspends b0.instrs → origin_in s part (Origin.Piece b0.label) b0.instrs ≡ Origin.Piece c.label → IsPlain f v → IsAtEnd q0 b0
  no_piece x c l other q0 b0 got0 none o plain =
      let p = cut.pieces q0 b0 got0 in
      let y = piece_there s part b0.term b0.label (map (pieced_phi s part origins b0.label) b0.phis) p.new p.last b0.instrs (p.first ∷ p.rest) p.pieces none c.label o in
      absurd (other q0 (cut.one x (Source.Of q0) c y.0 l (p.first ∷ p.rest, (p.there, y.1.0)) (sym y.1.1)).0)

  front_values : (b first : Block) (rest : List Block) (n last : ℕ) → ArePieces s part b.term b.label (map (pieced_phi s part origins b.label) b.phis) n b.instrs (first ∷ rest) last → (first.label ≡ b.label) × (phi_values first ≡ phi_values b)
  front_values b first rest n last pieces =
      let x = first_piece s part b.term b.label (map (pieced_phi s part origins b.label) b.phis) n last b.instrs (first ∷ rest) pieces in
      let same : first ≡ x.first = (let both : first ∷ rest ≡ x.first ∷ x.rest = x.is in cc) in
      (ap label_of same ∙ x.label_is, ap (λ (c : Block). made_by_phis [] c.phis) same ∙ ap (made_by_phis []) x.phis_are ∙ pieced_values b.label [] b.phis)

  pub enter : (x : Source) (c : Block) → Arrives x c → IsWalked x (phi_values c) c
  enter _ _ (AtFront q b first rest n last got all pieces apart a) =
      let front = front_values b first rest n last pieces in
      ⊎_elim (λ made. made_already (Source.Of q) (phi_values first) first made)
      (λ none. walk q b b.label n last (map (pieced_phi s part origins b.label) b.phis) b.instrs (first ∷ rest) pieces 0 (spot_first h q b got) (cut.told q b got) refl apart (λ c l. all c (inr l)) (first, (all first (inl refl), front.0)) (λ p. quiet.front q b got (a p) (λ l. none (subst (IsListed v) (sym front.1) l))) (phi_values first))
      (listed_or v (phi_values first))
  enter _ _ (AtPiece q at b first rest is mark n last spot all pieces apart told whole k) =
      let x = first_piece s part b.term mark [] n last is (first ∷ rest) pieces in
      let same : first ≡ x.first = (let both : first ∷ rest ≡ x.first ∷ x.rest = x.is in cc) in
      walk q b mark n last [] is (first ∷ rest) pieces at spot told whole apart (λ c l. all c (inr l)) (first, (all first (inl refl), ap label_of same ∙ x.label_is)) k (phi_values first)
  enter _ _ (AtPass q at b i is n j spot low d in_part k) =
      let goes : cut_at s part i is ≡ Cut.Returns → ⊥ = λ e. let both : Cut.Transfers j ≡ Cut.Returns = sym d ∙ e in absurd (cc) in
      record {
        uses = all_unused v f s part i [] (lowered s part n i) (low.uses n) (λ unmade by. quiet.used q at b i is spot (k (comes i by)) goes by);
        last = λ none. nothing_leads q b (Source.Of q) (pass_label s j) (Terminator.Ret None) refl refl (no_ends q b (pass_label s j) (pass_block (pass_label s j) (lowered s part n i)) in_part refl spot.got (λ nos o. passes_on s part j i is d (none_left q b at (i ∷ is) spot nos).1));
      }
  enter _ _ (AtDone a) =
      record {
        uses = tt;
        last = λ none. jump_left 0 (done_block s) Source.Last (done_label s) s.end (at_front s.end cut.end.0 cut.end.1.0 cut.end.1.1 a) (no_piece Source.Last (done_block s) refl (λ q e. absurd (cc)));
      }
  enter _ _ (AtBack j p c got is l a) =
      record {
        uses = tt;
        last = λ none. jump_left 0 (done_block s) Source.Head (back_label s j) (redirected s (or_zero (going_on part (Some p)))) (redirects (or_zero (going_on part (Some p))) c got is a) (no_piece Source.Head (back_block s part j p) l (λ q e. absurd (cc)));
      }
  enter _ _ (AtStop c l empty stop) =
      record {
        uses = subst (IsUnused v (phi_values c)) (sym empty) tt;
        last = λ none. nothing_leads 0 c Source.Head c.label c.term (ap targets stop) (ap (λ (t : Terminator). locals_in (ending_operands t)) stop) (no_piece Source.Head c l (λ q e. absurd (cc)));
      }
