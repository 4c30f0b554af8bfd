-- Allocas in the pieces of blocks: where those of a block stand first, none stands behind the first piece.
use Rattle.std.proofs.Common.{◌≡◌, ℕ, ◌+◌, Bool, true, false, List, [], ◌∷◌, ◌++◌, refl, sym, ap, ◌∙◌, subst}
use Rattle.std.specs.Prelude.{None, Option, Some, filter, ℤ, if◌then◌else◌}
use Rattle.pass_fetch_proof.specs.pass_front.Front.{is_alloca, is_no_alloca}
use Rattle.pass_split.specs.Pieces.{begins_again}
use Rattle.pass_fetch_proof.specs.flow_solver.Paths.{IsListed}
use Rattle.pass_fetch_proof.specs.pass_intrinsics.Cuts.{cut_at, goes_on}
use Rattle.pass_fetch_proof.specs.pass_intrinsics.Lowered.{lowered, lowered_call, names_taken, number_of_save, save_or_none, set_address, set_number, set_truth, done_test}
use Rattle.pass_fetch_proof.specs.pass_intrinsics.declared.cuts.Cut.{Cut}
use Rattle.pass_fetch_proof.specs.pass_intrinsics.declared.shape.Part.{Part}
use Rattle.pass_fetch_proof.specs.pass_intrinsics.declared.shape.Shape.{Shape}
use Rattle.ir_model.specs.declared.instr.Instr.{Instr}
use Rattle.ir_model.specs.declared.instr.Phi.{Phi}
use Rattle.ir_model.specs.declared.instr.Terminator.{Terminator}
use Rattle.ir_model.specs.declared.module.Block.{Block}
use Rattle.ir_model.specs.declared.operand.Arg.{Arg}
use Rattle.ir_model.specs.declared.operand.Callee.{Callee}
use Rattle.ir_model.specs.declared.operand.Intrinsic.{Intrinsic}
use Rattle.ir_model.specs.declared.operand.Operand.{Operand}
use Rattle.pass_fetch_proof.proofs.ir_laws.facts.Members.{each_joined}
use Rattle.pass_exits_proof.proofs.split.edges.Pieces.{HasHead, head_is}
use Rattle.pass_fetch_proof.proofs.ir_laws.paths.replaced.Known.{of_listed}
use Rattle.pass_exits_proof.specs.split.rules.Pieced.{ArePieces, BeginsAgain, Ends, Marks, Returns, Stays, Suspends, Transfers, in_front}
use Rattle.pass_fetch_proof.specs.run_laws.changed.Changed.{Each}

abbrev pub IsNoAlloca : Instr → Type 0
IsNoAlloca i = is_alloca i ≡ false

abbrev pub IsAnAlloca : Instr → Type 0
IsAnAlloca i = is_alloca i ≡ true

abbrev pub HasNoAlloca : Block → Type 0
HasNoAlloca c = Each IsNoAlloca c.instrs

-- ---- what is lowered

number_none : (r : Option ℕ) (w k : ℕ) → Each IsNoAlloca (set_number r w k)
number_none None w k = tt
number_none (Some v) w k = (refl, tt)

truth_none : (r : Option ℕ) (x : Operand) → Each IsNoAlloca (set_truth r x)
truth_none None x = tt
truth_none (Some v) x = (refl, tt)

address_none : (r : Option ℕ) (p : Operand) (z : ℤ) → Each IsNoAlloca (set_address r p z)
address_none None p z = tt
address_none (Some v) p z = (refl, tt)

save_none : (s : Shape) (n : ℕ) (o : Option ℕ) → Each IsNoAlloca (save_or_none s n o)
save_none s n None = tt
save_none s n (Some j) = (refl, (refl, (refl, tt)))

done_none : (n : ℕ) (r : Option ℕ) (p : Operand) → Each IsNoAlloca (done_test n r p)
done_none n None p = tt
done_none n (Some v) p = (refl, (refl, tt))

call_none : (s : Shape) (part : Part) (n : ℕ) (i : Instr) (x : Intrinsic) (r : Option ℕ) (args : List Arg) → is_alloca i ≡ false → Each IsNoAlloca (lowered_call s part n i x r args)
call_none s part n i Intrinsic.CoroSizeI32 r args e = number_none r 32 s.size
call_none s part n i Intrinsic.CoroSizeI64 r args e = number_none r 64 s.size
call_none s part n i Intrinsic.CoroAlignI32 r args e = number_none r 32 s.align
call_none s part n i Intrinsic.CoroAlignI64 r args e = number_none r 64 s.align
call_none s part n i Intrinsic.CoroAlloc r args e = truth_none r _
call_none s part n i Intrinsic.CoroBegin r args e = (refl, (refl, (refl, (refl, tt))))
call_none s part n i Intrinsic.CoroFree r args e = address_none r _ _
call_none s part n i Intrinsic.CoroFrame r args e = address_none r _ _
call_none s part n i Intrinsic.CoroSave r args e = save_none s n (number_of_save s r)
call_none s part n i Intrinsic.CoroSuspend r args e = tt
call_none s part n i Intrinsic.CoroEnd r args e = truth_none r _
call_none s part n i Intrinsic.CoroResume r args e = (refl, (refl, tt))
call_none s part n i Intrinsic.CoroDestroy r args e = (refl, (refl, (refl, tt)))
call_none s part n i Intrinsic.CoroDone r args e = done_none n r _
call_none s part n i Intrinsic.CoroPromise r args e = address_none r _ _
call_none s part n i _ r args e = (e, tt)

pub lowered_none : (s : Shape) (part : Part) (n : ℕ) (i : Instr) → is_alloca i ≡ false → Each IsNoAlloca (lowered s part n i)
lowered_none s part n (Instr.Call r must_tail ty (Callee.Intrinsic x) args) e = call_none s part n (Instr.Call r must_tail ty (Callee.Intrinsic x) args) x r args e
lowered_none s part n (Instr.Call r must_tail ty callee args) e = (refl, tt)
lowered_none s part n (Instr.Alloca r ty align) e = absurd (cc)
lowered_none s part n _ e = (refl, tt)

-- an alloca stays and doesn't cut its block
alloca_stays : (s : Shape) (part : Part) (i : Instr) (after : List Instr) → is_alloca i ≡ true → cut_at s part i after ≡ Cut.Stays
alloca_stays s part (Instr.Alloca r ty align) after e = refl
alloca_stays s part _ after e = absurd (cc)

pub alloca_goes_on : (part : Part) (i : Instr) → is_alloca i ≡ true → begins_again part i ≡ false
alloca_goes_on part (Instr.Alloca r ty align) e = on (goes_on part)
  where
    on : (b : Bool) → (if b then false else false) ≡ false
    on true = refl
    on false = refl
alloca_goes_on part _ e = absurd (cc)

alloca_lowered : (s : Shape) (part : Part) (n : ℕ) (i : Instr) → is_alloca i ≡ true → lowered s part n i ≡ i ∷ []
alloca_lowered s part n (Instr.Alloca r ty align) e = refl
alloca_lowered s part n _ e = absurd (cc)

-- ---- pieces

module _ (s : Shape) (part : Part) where
  pub none_allocas : (t : Terminator) (label : ℕ) (phis : List Phi) (n last : ℕ) (is : List Instr) (cs : List Block) → ArePieces s part t label phis n is cs last → Each IsNoAlloca is → Each HasNoAlloca cs
  none_allocas t _ _ _ _ _ _ (Ends label n phis) h = (tt, tt)
  none_allocas t _ _ _ _ _ _ (Stays label n last phis i is c cs e d rest) h =
      let more = none_allocas t label phis (n + names_taken i) last is (c ∷ cs) rest h.1 in
      (each_joined IsNoAlloca (lowered s part n i) c.instrs (lowered_none s part n i h.0) more.0, more.1)
  none_allocas t _ _ _ _ _ _ (Marks label n last mark phis i is cs e d rest) h = (lowered_none s part n i h.0, none_allocas t mark [] (n + names_taken i) last is cs rest h.1)
  none_allocas t _ _ _ _ _ _ (Suspends label n phis i is e d) h = (tt, tt)
  none_allocas t _ _ _ _ _ _ (Returns label n phis i is e d) h = (tt, tt)
  none_allocas t _ _ _ _ _ _ (Transfers label n j phis i is e d) h = (tt, (lowered_none s part n i h.0, tt))
  none_allocas t _ _ _ _ _ _ (BeginsAgain label n phis i is e) h = (tt, tt)

  -- the first piece begins with these instructions, and the others have no alloca
  abbrev pub HasFront : List Instr → List Block → Type 0
  HasFront xs [] = ⊥
  HasFront xs (c ∷ cs) = ((more : List Instr) × (c.instrs ≡ xs ++ more)) × Each HasNoAlloca cs

  in_front_of : (a : Instr) (xs : List Instr) (c : Block) (cs : List Block) (n : ℕ) → is_alloca a ≡ true → HasFront xs (c ∷ cs) → HasFront (a ∷ xs) (in_front (lowered s part n a) c ∷ cs)
  in_front_of a xs c cs n e h = ((h.0.0, λ k. alloca_lowered s part n a e k ++ h.0.1 k), h.1)

  pub front_pieces : (t : Terminator) (label : ℕ) (phis : List Phi) (n last : ℕ) (js : List Instr) (cs : List Block) → ArePieces s part t label phis n js cs last → (xs ys : List Instr) → js ≡ xs ++ ys → Each IsAnAlloca xs → Each IsNoAlloca ys → HasFront xs cs
  front_pieces t label phis n last js cs h [] ys same a b = on cs (none_allocas t label phis n last js cs h (subst (Each IsNoAlloca) (sym same) b)) (head_is s part t label phis n last js cs h)
    where
      on : (cs : List Block) → Each HasNoAlloca cs → HasHead s part label phis cs → HasFront [] cs
      on [] k l = absurd l
      on (c ∷ cs) k l = ((c.instrs, refl), k.1)
  front_pieces t _ _ _ _ _ _ (Ends label n phis) (x ∷ xs) ys same a b = absurd (cc)
  front_pieces t _ _ _ _ _ _ (Stays label n last phis i is c cs e d rest) (x ∷ xs) ys same a b =
      let one : i ≡ x = cc in
      let more : is ≡ xs ++ ys = cc in
      subst (λ (j : Instr). HasFront (j ∷ xs) (in_front (lowered s part n i) c ∷ cs)) one
      (in_front_of i xs c cs n (ap is_alloca one ∙ a.0) (front_pieces t label phis (n + names_taken i) last is (c ∷ cs) rest xs ys more a.1 b))
  front_pieces t _ _ _ _ _ _ (Marks label n last mark phis i is cs e d rest) (x ∷ xs) ys same a b =
      let one : i ≡ x = cc in
      let both : Cut.Marks mark ≡ Cut.Stays = sym d ∙ alloca_stays s part i is (ap is_alloca one ∙ a.0) in absurd (cc)
  front_pieces t _ _ _ _ _ _ (Suspends label n phis i is e d) (x ∷ xs) ys same a b =
      let one : i ≡ x = cc in
      let both : Cut.Suspends ≡ Cut.Stays = sym d ∙ alloca_stays s part i is (ap is_alloca one ∙ a.0) in absurd (cc)
  front_pieces t _ _ _ _ _ _ (Returns label n phis i is e d) (x ∷ xs) ys same a b =
      let one : i ≡ x = cc in
      let both : Cut.Returns ≡ Cut.Stays = sym d ∙ alloca_stays s part i is (ap is_alloca one ∙ a.0) in absurd (cc)
  front_pieces t _ _ _ _ _ _ (Transfers label n j phis i is e d) (x ∷ xs) ys same a b =
      let one : i ≡ x = cc in
      let both : Cut.Transfers j ≡ Cut.Stays = sym d ∙ alloca_stays s part i is (ap is_alloca one ∙ a.0) in absurd (cc)
  front_pieces t _ _ _ _ _ _ (BeginsAgain label n phis i is e) (x ∷ xs) ys same a b =
      let one : i ≡ x = cc in
      let both : true ≡ false = sym e ∙ alloca_goes_on part i (ap is_alloca one ∙ a.0) in absurd (cc)

-- ---- the parts of a list

pub all_allocas : (is : List Instr) → Each IsAnAlloca (filter is_alloca is)
all_allocas [] = tt
all_allocas (i ∷ is) = on (is_alloca i) refl (all_allocas is)
  where
    on : (b : Bool) → is_alloca i ≡ b → Each IsAnAlloca (filter is_alloca is) → Each IsAnAlloca (if b then i ∷ filter is_alloca is else filter is_alloca is)
    on true e rest = (e, rest)
    on false e rest = rest

pub no_allocas : (is : List Instr) → Each IsNoAlloca (filter is_no_alloca is)
no_allocas [] = tt
no_allocas (i ∷ is) = on (is_alloca i) refl (no_allocas is)
  where
    on : (b : Bool) → is_alloca i ≡ b → Each IsNoAlloca (filter is_no_alloca is) → Each IsNoAlloca (if (if b then false else true) then i ∷ filter is_no_alloca is else filter is_no_alloca is)
    on true e rest = rest
    on false e rest = (e, rest)

pub still_none : (is : List Instr) → Each IsNoAlloca is → (i : Instr) → IsListed i is → is_alloca i ≡ true → ⊥
still_none is h i l e = let both : true ≡ false = sym e ∙ of_listed IsNoAlloca is i h l in absurd (cc)
