-- Windows of a coroutine stay in its framed form, each at the places of its save and its suspend.
use Rattle.std.proofs.Common.{◌≡◌, ⊎_elim, ℕ, suc, ◌+◌, ◌<◌, ◌≤◌, Bool, true, false, List, [], ◌∷◌, ◌++◌, length, Option, Some, None, refl, sym, ap, ◌∙◌, subst, arith, if◌then◌else◌, ◌==◌, ◌&&◌}
use Rattle.std.proofs.lemmas.Bool.{and_parts, cases_lt}
use Rattle.std.proofs.lemmas.List.Elements.{recursion_from_All}
use Rattle.std.proofs.lemmas.Option.{slice_get-map}
use Rattle.std.specs.List.{AllByRecursion, cons_option}
use Rattle.std.specs.Prelude.{filter, filter_map, map, option_and_then, option_map, slice_get, unwrap_or}
use Rattle.pass_frames_proof.proofs.ir_laws.facts.Lists.{get_within}
use Rattle.pass_frames_proof.proofs.ir_laws.facts.Members.{at_each}
use Rattle.pass_frames_proof.proofs.ir_laws.facts.Truth.{either as either_number}
use Rattle.pass_frames_proof.proofs.ir_laws.paths.alike_functions.Lists.{each_where}
use Rattle.pass_frames_proof.specs.ir_model.Names.{block_labelled, first_where, function_at, is_local, position_of}
use Rattle.pass_frames_proof.specs.ir_model.declared.instr.Instr.{Instr}
use Rattle.pass_frames_proof.specs.ir_model.declared.module.Block.{Block}
use Rattle.pass_frames_proof.specs.ir_model.declared.module.Function.{Function}
use Rattle.pass_frames_proof.specs.ir_model.declared.operand.Intrinsic.{Intrinsic}
use Rattle.pass_frames_proof.proofs.ir_paths.Right.{facts_of_right}
use Rattle.pass_frames_proof.specs.ir_paths.Facts.{IsWindow}
use Rattle.pass_frames_proof.specs.ir_paths.Windows.{call_operand, call_result, instr_at, instr_in, is_call_of, is_suspend_of, leaves, points_from, points_in, points_where, suspend_of, window_of, windows_of}
use Rattle.pass_frames_proof.specs.ir_paths.declared.point.Point.{Point}
use Rattle.pass_frames_proof.specs.ir_paths.declared.point.Window.{Window}
use Rattle.pass_frames_meaning.proofs.ends.Chains.{len, pt}
use Rattle.pass_frames_meaning.proofs.ends.FramedEdges.{same_leaves}
use Rattle.pass_frames_meaning.proofs.ends.Tokens.{IsAny, IsOperand, IsPairCall, IsUnfetchedIn, operand_loaded, operand_placed, own_below, own_call, save_call, suspend_call, token_unfetched}
use Rattle.pass_frames_meaning.specs.Setting.{KeepsAll, Setting}
use Rattle.pass_frames_proof.proofs.code.Passes.{block_is}
use Rattle.pass_frames_proof.proofs.jumping.Labels.{position_same}
use Rattle.pass_frames_proof.proofs.stepping.Codes.{instr_there}
use Rattle.pass_frames_proof.proofs.tests.Points.{calls_moved}
use Rattle.pass_frames_proof.specs.Framings.{IsFraming}
use Rattle.pass_frames_proof.specs.Leaving.{AreWindowsPlaced, IsWindowPlaced}
use Rattle.pass_frames_proof.specs.Passes.{block_at}
use Rattle.pass_frames_proof.specs.Places.{Framing, edged, framed, own_place}
use Rattle.pass_frames_proof.specs.Related.{is_coroutine}
use Rattle.pass_frames_proof.specs.run_laws.changed.Changed.{Each}
use Rattle.pass_frames_proof.specs.run_step.Step.{AtInstr, fetch}

-- ---- points that pass two tests

module _ (t u : Instr → Bool) (q : Point → Bool) where
  both_from : (k at : ℕ) (is : List Instr)
      → ((j : ℕ) (i : Instr) → slice_get is j ≡ Some i → t i ≡ true → q (pt k (at + j)) ≡ u i)
      → points_from (λ i. t i && u i) k at is ≡ filter q (points_from t k at is)
  both_from k at [] h = refl
  both_from k at (i ∷ is) h = on (t i) refl (both_from k (suc at) is next)
    where
      next : (j : ℕ) (i : Instr) → slice_get is j ≡ Some i → t i ≡ true → q (pt k (suc at + j)) ≡ u i
      next j i e p =
          let same : suc at + j ≡ at + suc j = omega arith in
          ap (λ (n : ℕ). q (pt k n)) same ∙ h (suc j) i e p

      here : t i ≡ true → q (pt k at) ≡ u i
      here p = let same : at ≡ at + 0 = omega arith in ap (λ (n : ℕ). q (pt k n)) same ∙ h 0 i refl p

      keep : (b : Bool) → q (pt k at) ≡ b
          → points_from (λ i. t i && u i) k (suc at) is ≡ filter q (points_from t k (suc at) is)
          → (if b then pt k at ∷ points_from (λ i. t i && u i) k (suc at) is
          else points_from (λ i. t i && u i) k (suc at) is)
          ≡ (if q (pt k at) then pt k at ∷ filter q (points_from t k (suc at) is)
          else filter q (points_from t k (suc at) is))
      keep true e rest =
          ap (λ (ps : List Point). pt k at ∷ ps) rest
          ∙ sym (ap (λ (c : Bool). if c then pt k at ∷ filter q (points_from t k (suc at) is)
          else filter q (points_from t k (suc at) is)) e)
      keep false e rest =
          rest
          ∙ sym (ap (λ (c : Bool). if c then pt k at ∷ filter q (points_from t k (suc at) is)
          else filter q (points_from t k (suc at) is)) e)

      on : (b : Bool) → t i ≡ b → points_from (λ i. t i && u i) k (suc at) is ≡ filter q (points_from t k (suc at) is)
          → (if t i && u i then pt k at ∷ points_from (λ i. t i && u i) k (suc at) is
          else points_from (λ i. t i && u i) k (suc at) is)
          ≡ filter q (if t i then pt k at ∷ points_from t k (suc at) is else points_from t k (suc at) is)
      on true p rest =
          ap (λ (b : Bool). if b && u i then pt k at ∷ points_from (λ i. t i && u i) k (suc at) is
          else points_from (λ i. t i && u i) k (suc at) is) p
          ∙ keep (u i) (here p) rest
          ∙ sym (ap (λ (b : Bool). filter q (if b then pt k at ∷ points_from t k (suc at) is
          else points_from t k (suc at) is)) p)
      on false p rest =
          ap (λ (b : Bool). if b && u i then pt k at ∷ points_from (λ i. t i && u i) k (suc at) is
          else points_from (λ i. t i && u i) k (suc at) is) p
          ∙ rest
          ∙ sym (ap (λ (b : Bool). filter q (if b then pt k at ∷ points_from t k (suc at) is
          else points_from t k (suc at) is)) p)

  filter_joined : (xs ys : List Point) → filter q (xs ++ ys) ≡ filter q xs ++ filter q ys
  filter_joined [] ys = refl
  filter_joined (x ∷ xs) ys = on (q x) (filter_joined xs ys)
    where
      on : (b : Bool) → filter q (xs ++ ys) ≡ filter q xs ++ filter q ys
          → (if b then x ∷ filter q (xs ++ ys) else filter q (xs ++ ys))
          ≡ (if b then x ∷ filter q xs else filter q xs) ++ filter q ys
      on true rest = ap (λ (ps : List Point). x ∷ ps) rest
      on false rest = rest

  both_in : (k : ℕ) (bs : List Block)
      → ((j : ℕ) (b : Block) → slice_get bs j ≡ Some b → (l : ℕ) (i : Instr) → slice_get b.instrs l ≡ Some i
      → t i ≡ true → q (pt (k + j) l) ≡ u i)
      → points_in (λ i. t i && u i) k bs ≡ filter q (points_in t k bs)
  both_in k [] h = refl
  both_in k (b ∷ bs) h =
      (λ i. both_from k 0 b.instrs first i ++ both_in (suc k) bs next i)
      ∙ sym (filter_joined (points_from t k 0 b.instrs) (points_in t (suc k) bs))
    where
      first : (j : ℕ) (i : Instr) → slice_get b.instrs j ≡ Some i → t i ≡ true → q (pt k (0 + j)) ≡ u i
      first j i e p =
          let block : k ≡ k + 0 = omega arith in
          let at : 0 + j ≡ j = omega arith in
          (λ n. q (pt (block n) (at n))) ∙ h 0 b refl j i e p

      next : (j : ℕ) (c : Block) → slice_get bs j ≡ Some c → (l : ℕ) (i : Instr) → slice_get c.instrs l ≡ Some i
          → t i ≡ true → q (pt (suc k + j) l) ≡ u i
      next j c e l i d p =
          let same : suc k + j ≡ k + suc j = omega arith in
          ap (λ (n : ℕ). q (pt n l)) same ∙ h (suc j) c e l i d p

filter_mapped : (q : Point → Bool) (m : Point → Point) (ps : List Point)
    → filter q (map m ps) ≡ map m (filter (λ p. q (m p)) ps)
filter_mapped q m [] = refl
filter_mapped q m (p ∷ ps) = on (q (m p)) (filter_mapped q m ps)
  where
    on : (b : Bool) → filter q (map m ps) ≡ map m (filter (λ p. q (m p)) ps)
        → (if b then m p ∷ filter q (map m ps) else filter q (map m ps))
        ≡ map m (if b then p ∷ filter (λ p. q (m p)) ps else filter (λ p. q (m p)) ps)
    on true rest = ap (λ (qs : List Point). m p ∷ qs) rest
    on false rest = rest

filter_same : (q r : Point → Bool) (ps : List Point) → Each (λ p. q p ≡ r p) ps → filter q ps ≡ filter r ps
filter_same q r [] h = refl
filter_same q r (p ∷ ps) h =
    ap (λ (b : Bool). if b then p ∷ filter q ps else filter q ps) h.0
    ∙ ap (λ (qs : List Point). if r p then p ∷ qs else qs) (filter_same q r ps h.1)

-- no suspend takes the token of a save without a name
none_from : (k at : ℕ) (is : List Instr) → points_from (is_suspend_of None) k at is ≡ []
none_from k at [] = refl
none_from k at (i ∷ is) = none_from k (suc at) is

none_in : (k : ℕ) (bs : List Block) → points_in (is_suspend_of None) k bs ≡ []
none_in k [] = refl
none_in k (b ∷ bs) = (λ i. none_from k 0 b.instrs i ++ none_in (suc k) bs i)

-- ---- the windows of a coroutine

takes_token : ℕ → Option Instr → Bool
takes_token v None = false
takes_token v (Some i) = is_local v (call_operand i 0)

taking : (f : Function) (v : ℕ)
    → points_where (is_suspend_of (Some v)) f
    ≡ filter (λ p. takes_token v (instr_at f p)) (points_where (is_call_of Intrinsic.CoroSuspend) f)
unfolding takes_token
taking f v =
    both_in (is_call_of Intrinsic.CoroSuspend) (λ i. is_local v (call_operand i 0))
    (λ p. takes_token v (instr_at f p)) 0 f.blocks (λ j b e l i d p.
    let same : 0 + j ≡ j = omega arith in
    ap (λ (n : ℕ). takes_token v (instr_in (slice_get f.blocks n) l)) same
    ∙ ap (λ (o : Option Block). takes_token v (instr_in o l)) e ∙ ap (takes_token v) d)

-- an instruction of a block
record IsInstrAt (f : Function) (p : Point) (i : Instr) : Type 0 where
  got : slice_get f.blocks p.block ≡ Some (block_at f p.block)
  there : slice_get (block_at f p.block).instrs p.at ≡ Some i

instr_there_at : (f : Function) (p : Point) (i : Instr) → instr_at f p ≡ Some i → IsInstrAt f p i
instr_there_at f p i e = on (slice_get f.blocks p.block) refl e
  where
    on : (o : Option Block) → slice_get f.blocks p.block ≡ o → instr_in o p.at ≡ Some i → IsInstrAt f p i
    on None d h = absurd (cc)
    on (Some b) d h =
        let same : block_at f p.block ≡ b = block_is f p.block b d in
        record { got = d ∙ ap Some (sym same); there = ap (λ (c : Block). slice_get c.instrs p.at) same ∙ h }

-- a call stands at the point
pub record IsCallThere (y : Intrinsic) (f : Function) (p : Point) : Type 0 where
  pub instr : Instr
  pub stands : instr_at f p ≡ Some instr
  pub calls : is_call_of y instr ≡ true

-- a suspend takes the token of a save
suspends_call : (r : Option ℕ) (i : Instr) → is_suspend_of r i ≡ true → is_call_of Intrinsic.CoroSuspend i ≡ true
suspends_call None i e = absurd (cc)
suspends_call (Some v) i e = (and_parts (is_call_of Intrinsic.CoroSuspend i) (is_local v (call_operand i 0)) e).0

first_there : (t : Block → Bool) (bs : List Block) (k : ℕ) → first_where t bs ≡ Some k
    → (b : Block) × (slice_get bs k ≡ Some b)
first_there t [] k e = absurd (cc)
first_there t (b ∷ bs) k e = on (t b) (first_where t bs) refl e (first_there t bs)
  where
    on : (q : Bool) (o : Option ℕ) → first_where t bs ≡ o → (if q then Some 0 else option_map suc o) ≡ Some k
        → ((j : ℕ) → first_where t bs ≡ Some j → (c : Block) × (slice_get bs j ≡ Some c))
        → (c : Block) × (slice_get (b ∷ bs) k ≡ Some c)
    on true o d h more = let zero_is : 0 ≡ k = cc in (b, ap (slice_get (b ∷ bs)) (sym zero_is))
    on false None d h more = absurd (cc)
    on false (Some j) d h more =
        let next : suc j ≡ k = cc in
        let z = more j d in
        (z.0, ap (slice_get (b ∷ bs)) (sym next) ∙ z.1)

block_found : (f : Function) (label k : ℕ) → block_labelled f label ≡ Some k
    → slice_get f.blocks k ≡ Some (block_at f k)
block_found f label k e =
    let z = first_there (λ (b : Block). b.label == label) f.blocks k e in
    z.1 ∙ ap Some (sym (block_is f k z.0 z.1))

module _ (c : Setting) (all : KeepsAll c) (func : ℕ) (coroutine : is_coroutine c.b func ≡ true) where
  abbrev X : Framing
  X = c.b.framing func

  abbrev F : Function
  F = edged (c.b.framing func)

  abbrev G : Function
  G = framed (c.b.framing func)

  isX : IsFraming X
  isX = all.given.framings func coroutine

  sameF : function_at c.g.given.code func ≡ F
  sameF = all.given.coroutines func coroutine

  -- ---- a save and its suspend stand in the framed form

  save_there : (p : Point) (i : Instr) → instr_at F p ≡ Some i → is_call_of Intrinsic.CoroSave i ≡ true
      → (j : Instr) × IsPairCall Intrinsic.CoroSave IsAny (call_result i) j × (instr_at G (own_place X p) ≡ Some j)
  save_there p i e calls =
      own_call Intrinsic.CoroSave tt IsAny (call_result i) X (λ n o h. tt) (λ n o h. tt) p.block p.at i
      (instr_there_at F p i e).there (save_call i calls)

  operand_of : (p : Point) (i : Instr) → instr_at F p ≡ Some i → is_call_of Intrinsic.CoroSuspend i ≡ true
      → IsUnfetchedIn X (call_operand i 0)
  operand_of p i e calls =
      let k : IsPairCall Intrinsic.CoroSuspend IsAny (call_result i) i = suspend_call IsAny i calls tt in
      let at : fetch (function_at c.g.given.code func) p.block p.at ≡ AtInstr i =
      ap (λ (g : Function). fetch g p.block p.at) sameF
      ∙ instr_there F p.block p.at i (instr_there_at F p i e).there in
      subst (λ (q : Instr). IsUnfetchedIn X (call_operand q 0)) (sym k.is)
      (token_unfetched c all func coroutine p.block p.at (call_result i) k.must_tail k.ty k.args
      (at ∙ ap AtInstr k.is))

  suspend_there : (p : Point) (i : Instr) → instr_at F p ≡ Some i → is_call_of Intrinsic.CoroSuspend i ≡ true
      → (j : Instr) × IsPairCall Intrinsic.CoroSuspend (IsOperand X (call_operand i 0)) (call_result i) j
      × (instr_at G (own_place X p) ≡ Some j)
  suspend_there p i e calls =
      own_call Intrinsic.CoroSuspend tt (IsOperand X (call_operand i 0)) (call_result i) X
      (operand_loaded X (call_operand i 0)) (operand_placed X (call_operand i 0)) p.block p.at i
      (instr_there_at F p i e).there
      (suspend_call (IsOperand X (call_operand i 0)) i calls (refl, operand_of p i e calls))

  -- ---- the suspend of a save

  same_taken : (v : ℕ) (p : Point) (i : Instr) → instr_at F p ≡ Some i → is_call_of Intrinsic.CoroSuspend i ≡ true
      → takes_token v (instr_at G (own_place X p)) ≡ takes_token v (instr_at F p)
  unfolding takes_token
  same_taken v p i e calls =
      let z = suspend_there p i e calls in
      ap (takes_token v) z.2
      ∙ ap (is_local v) (ap (λ (j : Instr). call_operand j 0) z.1.is ∙ z.1.first.0)
      ∙ sym (ap (takes_token v) e)

  suspends_moved : (r : Option ℕ)
      → points_where (is_suspend_of r) G ≡ map (own_place X) (points_where (is_suspend_of r) F)
  suspends_moved None = none_in 0 G.blocks ∙ sym (ap (map (own_place X)) (none_in 0 F.blocks))
  suspends_moved (Some v) =
      taking G v
      ∙ ap (filter (λ p. takes_token v (instr_at G p))) (calls_moved X Intrinsic.CoroSuspend refl)
      ∙ filter_mapped (λ p. takes_token v (instr_at G p)) (own_place X)
      (points_where (is_call_of Intrinsic.CoroSuspend) F)
      ∙ ap (map (own_place X))
      (filter_same (λ p. takes_token v (instr_at G (own_place X p))) (λ p. takes_token v (instr_at F p))
      (points_where (is_call_of Intrinsic.CoroSuspend) F)
      (each_where (λ p. takes_token v (instr_at G (own_place X p)) ≡ takes_token v (instr_at F p))
      (is_call_of Intrinsic.CoroSuspend) F (λ p i e calls. same_taken v p i e calls)))
      ∙ sym (ap (map (own_place X)) (taking F v))

  pub suspend_moved : (p : Point) (i : Instr) → instr_at F p ≡ Some i → is_call_of Intrinsic.CoroSave i ≡ true
      → suspend_of G (own_place X p) ≡ option_map (own_place X) (suspend_of F p)
  suspend_moved p i e calls =
      let z = save_there p i e calls in
      ap (λ (o : Option Instr). slice_get (points_where (is_suspend_of (option_and_then call_result o)) G) 0) z.2
      ∙ ap (λ (r : Option ℕ). slice_get (points_where (is_suspend_of r) G) 0) (ap call_result z.1.is)
      ∙ ap (λ (ps : List Point). slice_get ps 0) (suspends_moved (call_result i))
      ∙ slice_get-map (own_place X) (points_where (is_suspend_of (call_result i)) F) 0
      ∙ sym (ap (λ (o : Option Instr). option_map (own_place X)
      (slice_get (points_where (is_suspend_of (option_and_then call_result o)) F) 0)) e)

  suspend_is : (p u : Point) → suspend_of F p ≡ Some u → IsCallThere Intrinsic.CoroSuspend F u
  suspend_is p u e =
      at_each (IsCallThere Intrinsic.CoroSuspend F)
      (points_where (is_suspend_of (option_and_then call_result (instr_at F p))) F) 0 u
      (each_where (IsCallThere Intrinsic.CoroSuspend F) (is_suspend_of (option_and_then call_result (instr_at F p))) F
      (λ q i d t. record {
        instr = i;
        stands = d;
        calls = suspends_call (option_and_then call_result (instr_at F p)) i t;
      })) e

  -- ---- one window

  module _ (p u : Point) (save : IsCallThere Intrinsic.CoroSave F p)
      (suspend : IsCallThere Intrinsic.CoroSuspend F u) where
    at_save : IsInstrAt F p save.instr
    at_save = instr_there_at F p save.instr save.stands

    at_suspend : IsInstrAt F u suspend.instr
    at_suspend = instr_there_at F u suspend.instr suspend.stands

    lower : p.at < len F p.block
    lower = get_within (block_at F p.block).instrs p.at save.instr at_save.there

    upper : u.at < len F u.block
    upper = get_within (block_at F u.block).instrs u.at suspend.instr at_suspend.there

    there_save : (j : Instr) × IsPairCall Intrinsic.CoroSave IsAny (call_result save.instr) j
        × (instr_at G (own_place X p) ≡ Some j)
    there_save = save_there p save.instr save.stands save.calls

    there_suspend : (j : Instr)
        × IsPairCall Intrinsic.CoroSuspend (IsOperand X (call_operand suspend.instr 0)) (call_result suspend.instr) j
        × (instr_at G (own_place X u) ≡ Some j)
    there_suspend = suspend_there u suspend.instr suspend.stands suspend.calls

    lower2 : (own_place X p).at < len G p.block
    lower2 = get_within (block_at G p.block).instrs (own_place X p).at there_save.0
        (instr_there_at G (own_place X p) there_save.0 there_save.2).there

    upper2 : (own_place X u).at < len G u.block
    upper2 = get_within (block_at G u.block).instrs (own_place X u).at there_suspend.0
        (instr_there_at G (own_place X u) there_suspend.0 there_suspend.2).there

    forth : (p.block ≡ u.block) × (p.at < u.at) → (p.block ≡ u.block) × ((own_place X p).at < (own_place X u).at)
    forth z = (
      z.0,
      subst (λ (n : ℕ). (own_place X p).at < (own_place X (pt n u.at)).at) z.0
          (own_below Intrinsic.CoroSave tt IsAny (call_result save.instr) X (λ n o h. tt) (λ n o h. tt) p.block p.at
          u.at
          save.instr at_save.there (save_call save.instr save.calls) z.1
          (subst (λ (n : ℕ). u.at < len F n) (sym z.0) upper)),
    )

    other_way : p.block ≡ u.block → u.at < p.at → (own_place X u).at < (own_place X p).at
    other_way e lt =
        subst (λ (n : ℕ). (own_place X u).at < (own_place X (pt n p.at)).at) (sym e)
        (own_below Intrinsic.CoroSuspend tt (IsOperand X (call_operand suspend.instr 0)) (call_result suspend.instr) X
        (operand_loaded X (call_operand suspend.instr 0)) (operand_placed X (call_operand suspend.instr 0)) u.block u.at
        p.at suspend.instr at_suspend.there
        (suspend_call (IsOperand X (call_operand suspend.instr 0)) suspend.instr suspend.calls
        (refl, operand_of u suspend.instr suspend.stands suspend.calls)) lt
        (subst (λ (n : ℕ). p.at < len F n) e lower))

    back : (p.block ≡ u.block) × ((own_place X p).at < (own_place X u).at) → (p.block ≡ u.block) × (p.at < u.at)
    back z = (z.0, ⊎_elim (λ lt. lt) (λ le. absurd (never le)) (cases_lt p.at u.at))
      where
        same_at : p.at ≡ u.at → (own_place X p).at ≡ (own_place X u).at
        same_at e = λ i. (own_place X (pt (z.0 i) (e i))).at

        never : u.at ≤ p.at → ⊥
        never le = ⊎_elim
            (λ e. let d = same_at e in let lt = z.1 in omega (arith, d, lt))
            (λ n. let d = other_way z.0 (omega (arith, le, n)) in let lt = z.1 in omega (arith, d, lt))
            (either_number p.at u.at)

    window_placed : IsWindow F (window_of F p u) → IsWindow G (window_of G (own_place X p) (own_place X u))
        → IsWindowPlaced X (window_of F p u) (window_of G (own_place X p) (own_place X u))
    window_placed old new = record {
      save = refl;
      leaves_too = λ k label target got labelled.
          let at : position_of F label ≡ target = ap (λ (o : Option ℕ). unwrap_or o (length F.blocks)) labelled in
          let to : slice_get F.blocks target ≡ Some (block_at F target) = block_found F label target labelled in
          ap (λ (n : ℕ). leaves (pt k (len G k)) (pt n 0) (window_of G (own_place X p) (own_place X u)))
          (position_same X label target labelled ∙ at)
          ∙ same_leaves X isX p.block p.at u.block u.at (own_place X p).at (own_place X u).at lower upper lower2 upper2
          at_save.got at_suspend.got (forth, back) (window_of F p u) (window_of G (own_place X p) (own_place X u)) refl
          refl old refl refl new k target got to
          ∙ sym (ap (λ (n : ℕ). leaves (pt k (len F k)) (pt n 0) (window_of F p u)) at);
    }

  -- ---- all of them

  abbrev windows_by : Function → List Point → List Window
  windows_by f ps = map (λ (s, u). window_of f s u)
      (filter_map (λ (s : Point). option_map {U = Point × Point} (λ (u : Point). (s, u)) (suspend_of f s)) ps)

  abbrev rest : Function → List Point → List (Point × Point)
  rest f qs = filter_map (λ (s : Point). option_map {U = Point × Point} (λ (u : Point). (s, u)) (suspend_of f s)) qs

  abbrev by : Function → Point → List Point → Option Point → List Window
  by f s qs o = map (λ (s, u). window_of f s u)
      (cons_option (option_map {U = Point × Point} (λ (u : Point). (s, u)) o) (rest f qs))

  windows_one : (ps : List Point) → Each (IsCallThere Intrinsic.CoroSave F) ps
      → AllByRecursion (IsWindow F) (windows_by F ps)
      → AllByRecursion (IsWindow G) (windows_by G (map (own_place X) ps))
      → AreWindowsPlaced X (windows_by F ps) (windows_by G (map (own_place X) ps))
  windows_one [] h old new = tt
  windows_one (p ∷ ps) h old new =
      on (suspend_of F p) refl (suspend_of G (own_place X p))
      (suspend_moved p h.0.instr h.0.stands h.0.calls) old new (windows_one ps h.1)
    where
      on : (o : Option Point) → suspend_of F p ≡ o → (q : Option Point) → q ≡ option_map (own_place X) (suspend_of F p)
          → AllByRecursion (IsWindow F) (by F p ps o)
          → AllByRecursion (IsWindow G) (by G (own_place X p) (map (own_place X) ps) q)
          → (AllByRecursion (IsWindow F) (windows_by F ps)
          → AllByRecursion (IsWindow G) (windows_by G (map (own_place X) ps))
          → AreWindowsPlaced X (windows_by F ps) (windows_by G (map (own_place X) ps)))
          → AreWindowsPlaced X (by F p ps o) (by G (own_place X p) (map (own_place X) ps) q)
      on None e q d a b more =
          let none : q ≡ None = d ∙ ap (option_map (own_place X)) e in
          subst (λ (w : Option Point). AreWindowsPlaced X (by F p ps None)
          (by G (own_place X p) (map (own_place X) ps) w)) (sym none)
          (more a (subst (λ (w : Option Point). AllByRecursion (IsWindow G)
          (by G (own_place X p) (map (own_place X) ps) w)) none b))
      on (Some u) e q d a b more =
          let some : q ≡ Some (own_place X u) = d ∙ ap (option_map (own_place X)) e in
          let b' = subst (λ (w : Option Point). AllByRecursion (IsWindow G)
          (by G (own_place X p) (map (own_place X) ps) w)) some b in
          subst (λ (w : Option Point). AreWindowsPlaced X (by F p ps (Some u))
          (by G (own_place X p) (map (own_place X) ps) w)) (sym some)
          (window_placed p u h.0 (suspend_is p u e) a.0 b'.0, more a.1 b'.1)

  pub windows_placed : AreWindowsPlaced X (windows_of F) (windows_of G)
  windows_placed =
      subst (λ (ps : List Point). AreWindowsPlaced X (windows_of F) (windows_by G ps))
      (sym (calls_moved X Intrinsic.CoroSave refl))
      (windows_one (points_where (is_call_of Intrinsic.CoroSave) F)
      (each_where (IsCallThere Intrinsic.CoroSave F) (is_call_of Intrinsic.CoroSave) F
      (λ p i e calls. record { instr = i; stands = e; calls = calls }))
      (recursion_from_All (IsWindow F) (windows_of F) (facts_of_right F).windows)
      (subst (λ (ps : List Point). AllByRecursion (IsWindow G) (windows_by G ps))
      (calls_moved X Intrinsic.CoroSave refl)
      (recursion_from_All (IsWindow G) (windows_of G) (facts_of_right G).windows)))
