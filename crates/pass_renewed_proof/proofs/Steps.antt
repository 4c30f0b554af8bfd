-- An ordinary step is carried over, where blocks of the source are hidden and only what the instruction reads needs
-- to stand in the target: an instance of the law of two instructions of one shape.
use Rattle.std.proofs.Common.{◌≡◌, ℕ, zero, suc, ◌≤◌, ◌⊎◌, inl, inr, ⊎_elim, if◌then◌else◌, Bool, true, false, List, [], ◌∷◌, length, Option, Some, None, refl, sym, ap, ◌∙◌, subst}
use Rattle.std.specs.Prelude.{IsTrue, ℤ, option_map}
use Rattle.pass_kept_proof.specs.run_memory.Memory.{owner_rights}
use Rattle.pass_kept_proof.specs.run_memory.declared.pointer.Value.{Value}
use Rattle.pass_kept_proof.specs.ir_base.declared.name.Name.{Name}
use Rattle.pass_kept_proof.specs.ir_model.Names.{declaration_named, function_named}
use Rattle.pass_kept_proof.specs.ir_model.Ty.{Ty, array, int, named, ptr, structure, token}
use Rattle.pass_kept_proof.specs.ir_model.declared.instr.Case.{Case}
use Rattle.pass_kept_proof.specs.ir_model.declared.instr.Instr.{Instr}
use Rattle.pass_kept_proof.specs.ir_model.declared.operand.Allocator.{Allocator}
use Rattle.pass_kept_proof.specs.ir_model.declared.operand.Arg.{Arg}
use Rattle.pass_kept_proof.specs.ir_model.declared.operand.Callee.{Callee}
use Rattle.pass_kept_proof.specs.ir_model.declared.operand.Intrinsic.{Intrinsic}
use Rattle.pass_kept_proof.specs.ir_model.declared.operand.Operand.{Operand}
use Rattle.pass_kept_proof.specs.Kept.{kept}
use Rattle.pass_kept_proof.specs.Needed.{reads_at}
use Rattle.run_laws.proofs.memory.Itself.{owner_rights_fit}
use Rattle.run_laws.specs.memory.Pointers.{Home, IsValue, home_of}
use Rattle.run_laws.specs.memory.Standing.{AreByteRights}
use Rattle.pass_kept_proof.specs.run_step.Reads as reads
use Rattle.pass_kept_proof.specs.run_step.Step.{Action, AtInstr, AtTerm, Context, Coro, Deallocate, Done, Enter, Fetched, GoTo, NewSlot, Nowhere, Return, Stuck, Work, action_of}
use Rattle.pass_kept_proof.specs.run_step.Values.{Env, literal, operand_value, value_in, value_or_poison}
use Rattle.pass_renewed_proof.proofs.Small.{owner_embeds, same_action, small_embeds, small_rights_fit}
use Rattle.pass_renewed_proof.specs.Small.{small_rights}
use Rattle.pass_renewed_proof.specs.Steps.{AreOver, GoesOver, IsRead, given_at}
use Rattle.run_laws.specs.embedded.Related.{HasDistance}
use Rattle.run_laws.specs.changed.Changed.{Each, callee_at}
use Rattle.run_laws.proofs.transfer.Alone.{reads_itself}
use Rattle.run_laws.proofs.transfer.Over as transfer
use Rattle.run_laws.specs.transfer.Alone.{IsNoLocal, IsReadBy}
use Rattle.run_laws.specs.transfer.Transfer as general

-- a name that isn't kept has no value
pub cut_at : (keep : ℕ → Bool) (env : Env) (v : ℕ) → keep v ≡ false → value_in (kept keep env) v ≡ Value.Poison
cut_at keep [] v e = refl
cut_at keep (x ∷ env) zero e = ap (λ t. value_or_poison (Some (if t then x else None))) e
cut_at keep (x ∷ env) (suc v) e = cut_at (λ i. keep (suc i)) env v e

literal_itself : (homes : List Home) (ty : Ty) (z : ℤ) → IsValue homes (literal ty z) (literal ty z)
literal_itself homes (int w) z = refl
literal_itself homes ptr z = tt
literal_itself homes token z = tt
literal_itself homes (array n t) z = tt
literal_itself homes (structure ts) z = tt
literal_itself homes (named n) z = tt

-- ---- what is read and given is the same by both definitions

intrinsic_read : (v : ℕ) (i : Intrinsic) (r : Option ℕ) (must_tail : Bool) (ty : Option Ty) (args : List Arg)
    → reads.reads_at v (AtInstr (Instr.Call r must_tail ty (Callee.Intrinsic i) args)) ≡ reads_at v
    (AtInstr (Instr.Call r must_tail ty (Callee.Intrinsic i) args))
intrinsic_read v Intrinsic.CoroBegin r must_tail ty args = refl
intrinsic_read v Intrinsic.CoroResume r must_tail ty args = refl
intrinsic_read v Intrinsic.CoroDestroy r must_tail ty args = refl
intrinsic_read v Intrinsic.CoroDone r must_tail ty args = refl
intrinsic_read v Intrinsic.CoroPromise r must_tail ty args = refl
intrinsic_read v Intrinsic.LifetimeStart r must_tail ty args = refl
intrinsic_read v Intrinsic.LifetimeEnd r must_tail ty args = refl
intrinsic_read v Intrinsic.MemcpyI64 r must_tail ty args = refl
intrinsic_read v Intrinsic.MemcpyI32 r must_tail ty args = refl
intrinsic_read v _ r must_tail ty args = refl

instr_read : (v : ℕ) (i : Instr) → reads.reads_at v (AtInstr i) ≡ reads_at v (AtInstr i)
instr_read v (Instr.Binary r op flags ty a b) = refl
instr_read v (Instr.Icmp r pred ty a b) = refl
instr_read v (Instr.Select r x a b) = refl
instr_read v (Instr.Cast r op nneg a to) = refl
instr_read v (Instr.Alloca r ty align) = refl
instr_read v (Instr.Load r ty p align) = refl
instr_read v (Instr.Store a p align) = refl
instr_read v (Instr.Gep r inbounds ty p indices) = refl
instr_read v (Instr.Call r must_tail ty (Callee.Named n) args) = refl
instr_read v (Instr.Call r must_tail ty (Callee.Allocator a) args) = refl
instr_read v (Instr.Call r must_tail ty (Callee.Intrinsic i) args) = intrinsic_read v i r must_tail ty args
instr_read v (Instr.Call r must_tail ty (Callee.Local f) args) = refl

here_read : (v : ℕ) (here : Fetched) → reads.reads_at v here ≡ reads_at v here
here_read v Nowhere = refl
here_read v (AtInstr i) = instr_read v i
here_read v (AtTerm t) = refl

-- the call of coro.end, whose action sets nothing
abbrev EndsHere : Fetched → Type 0
EndsHere here = (r : Option ℕ) × (must_tail : Bool) × (ty : Option Ty) × (args : List Arg) ×
    (here ≡ AtInstr (Instr.Call r must_tail ty (Callee.Intrinsic Intrinsic.CoroEnd) args))

abbrev Given : Fetched → Type 0
Given here = (general.given_at here ≡ given_at here) ⊎ EndsHere here

intrinsic_given : (i : Intrinsic) (r : Option ℕ) (must_tail : Bool) (ty : Option Ty) (args : List Arg)
    → Given (AtInstr (Instr.Call r must_tail ty (Callee.Intrinsic i) args))
intrinsic_given Intrinsic.CoroSizeI32 r must_tail ty args = inl refl
intrinsic_given Intrinsic.CoroSizeI64 r must_tail ty args = inl refl
intrinsic_given Intrinsic.CoroAlignI32 r must_tail ty args = inl refl
intrinsic_given Intrinsic.CoroAlignI64 r must_tail ty args = inl refl
intrinsic_given Intrinsic.CoroAlloc r must_tail ty args = inl refl
intrinsic_given Intrinsic.CoroBegin r must_tail ty args = inl refl
intrinsic_given Intrinsic.CoroFree r must_tail ty args = inl refl
intrinsic_given Intrinsic.CoroFrame r must_tail ty args = inl refl
intrinsic_given Intrinsic.CoroSuspend r must_tail ty args = inl refl
intrinsic_given Intrinsic.CoroDone r must_tail ty args = inl refl
intrinsic_given Intrinsic.CoroPromise r must_tail ty args = inl refl
intrinsic_given Intrinsic.CoroEnd r must_tail ty args = inr (r, must_tail, ty, args, refl)
intrinsic_given _ r must_tail ty args = inl refl

allocator_given : (a : Allocator) (r : Option ℕ) (must_tail : Bool) (ty : Option Ty) (args : List Arg)
    → general.given_at (AtInstr (Instr.Call r must_tail ty (Callee.Allocator a) args)) ≡ given_at
    (AtInstr (Instr.Call r must_tail ty (Callee.Allocator a) args))
allocator_given Allocator.Malloc r must_tail ty args = refl
allocator_given Allocator.Znwm r must_tail ty args = refl
allocator_given _ r must_tail ty args = refl

instr_given : (i : Instr) → Given (AtInstr i)
instr_given (Instr.Call r must_tail ty (Callee.Named n) args) = inl refl
instr_given (Instr.Call r must_tail ty (Callee.Allocator a) args) = inl (allocator_given a r must_tail ty args)
instr_given (Instr.Call r must_tail ty (Callee.Intrinsic i) args) = intrinsic_given i r must_tail ty args
instr_given (Instr.Call r must_tail ty (Callee.Local f) args) = inl refl
instr_given (Instr.Binary r op flags ty a b) = inl refl
instr_given (Instr.Icmp r pred ty a b) = inl refl
instr_given (Instr.Select r x a b) = inl refl
instr_given (Instr.Cast r op nneg a to) = inl refl
instr_given (Instr.Alloca r ty align) = inl refl
instr_given (Instr.Load r ty p align) = inl refl
instr_given (Instr.Store a p align) = inl refl
instr_given (Instr.Gep r inbounds ty p indices) = inl refl

here_given : (here : Fetched) → Given here
here_given Nowhere = inl refl
here_given (AtInstr i) = instr_given i
here_given (AtTerm t) = inl refl

module _ (homes : List Home) (hides : ℕ → Bool) (c : Context) (w x : Work) (here : Fetched) where
  module _ (rights : c.rights ≡ owner_rights) (over : AreOver homes hides w.world x.world) (hidden : (b : ℕ)
      → hides b ≡ true → (home_of homes b).is_seen ≡ false) (new : hides (length w.world.memory) ≡ false)
      (read : IsRead homes c w.values x.values here) where
    no_local : (a : Operand) (ty : Ty) → IsNoLocal a
        → IsValue homes (operand_value c.code w.values ty a) (operand_value c.code x.values ty a)
    no_local (Operand.Local name) ty h = absurd h
    no_local (Operand.Global n) ty h = read.globals n
    no_local (Operand.Number z) ty h = literal_itself homes ty z
    no_local Operand.True ty h = refl
    no_local Operand.False ty h = refl
    no_local Operand.Null ty h = (tt, refl)
    no_local Operand.None ty h = tt
    no_local Operand.Poison ty h = tt

    -- the context by which pointers are compared at offsets of 64 bits alone
    abbrev d : Context
    d = record c { rights = small_rights }

    read_by : IsReadBy (IsValue homes) d c w.values x.values here
    read_by = record { reads = λ v h. read.reads v (subst IsTrue (here_read v here) h); others = no_local }

    unmoved : (o : Option ℕ) → o ≡ option_map (λ n. n) o
    unmoved None = refl
    unmoved (Some n) = refl

    named_alike : (n : Option Name) → general.IsNamedAlike general.same_maps d c n
    named_alike None = tt
    named_alike (Some n) = (unmoved (function_named c.code n), unmoved (declaration_named c.code n))

    pointed : (z : Fetched) → general.IsPointedAlike general.same_maps d c w.values z
    pointed (AtInstr (Instr.Call r must_tail ty (Callee.Local v) args)) = λ func e. (refl, refl)
    pointed (AtInstr (Instr.Call r must_tail ty (Callee.Named n) args)) = tt
    pointed (AtInstr (Instr.Call r must_tail ty (Callee.Allocator a) args)) = tt
    pointed (AtInstr (Instr.Call r must_tail ty (Callee.Intrinsic i) args)) = tt
    pointed (AtInstr (Instr.Binary r op flags ty a b)) = tt
    pointed (AtInstr (Instr.Icmp r pred ty a b)) = tt
    pointed (AtInstr (Instr.Select r y a b)) = tt
    pointed (AtInstr (Instr.Cast r op nneg a to)) = tt
    pointed (AtInstr (Instr.Alloca r ty align)) = tt
    pointed (AtInstr (Instr.Load r ty p align)) = tt
    pointed (AtInstr (Instr.Store a p align)) = tt
    pointed (AtInstr (Instr.Gep r inbounds ty p indices)) = tt
    pointed (AtTerm t) = tt
    pointed Nowhere = tt

    distances : (z : Fetched) → HasDistance c c w.values x.values z
        → general.AreSameDistances d c w.values x.values z z
    distances (AtInstr (Instr.Gep r inbounds ty p indices)) h = h
    distances (AtInstr (Instr.Call r must_tail ty callee args)) h = tt
    distances (AtInstr (Instr.Binary r op flags ty a b)) h = tt
    distances (AtInstr (Instr.Icmp r pred ty a b)) h = tt
    distances (AtInstr (Instr.Select r y a b)) h = tt
    distances (AtInstr (Instr.Cast r op nneg a to)) h = tt
    distances (AtInstr (Instr.Alloca r ty align)) h = tt
    distances (AtInstr (Instr.Load r ty p align)) h = tt
    distances (AtInstr (Instr.Store a p align)) h = tt
    distances (AtTerm t) h = tt
    distances Nowhere h = tt

    same_cases : (cases : List Case) → Each (general.IsSameCase d c) cases
    same_cases [] = tt
    same_cases (k ∷ cases) = (refl, same_cases cases)

    joined : general.AreJoined homes hides general.same_maps d c w x
    joined = record {
      over = subst (λ r. general.AreOver small_rights r homes hides (λ d. d) w.world x.world) (sym rights) (record {
        memory = small_embeds homes _ _ over.memory;
        nulls = over.nulls;
        bounds = over.bounds;
        events = over.events;
        answers = over.answers;
        allocs = over.allocs;
      });
      hidden = hidden;
      answers = refl;
      room = read.room;
    }

    transferred : general.IsTransferred (IsValue homes) general.same_maps d c w.values x.values here here
    transferred = record {
      shape = reads_itself (IsValue homes) d c w.values x.values here read_by;
      callee = named_alike (callee_at here);
      pointed = pointed here;
      distance = distances here read.distance;
      cases = same_cases (general.cases_at here);
      no_slot = read.no_slot;
      bytes = read.bytes;
    }

    fit : AreByteRights c.rights
    fit = subst AreByteRights (sym rights) owner_rights_fit

    same : action_of d w here ≡ action_of c w here
    same = same_action c w here read.small ∙ ap (λ r. action_of (record c { rights = r }) w here) (sym rights)

    goes : general.GoesOver small_rights owner_rights homes hides general.same_maps (general.given_at here)
        (general.args_at here) (general.args_at here) w x (action_of c w here) (action_of c x here)
    goes = subst (λ a. general.GoesOver small_rights owner_rights homes hides general.same_maps (general.given_at here)
        (general.args_at here) (general.args_at here) w x a (action_of c x here)) same
        (subst (λ r. general.GoesOver small_rights r homes hides general.same_maps (general.given_at here)
        (general.args_at here) (general.args_at here) w x (action_of d w here) (action_of c x here)) rights
        (transfer.step_over homes hides general.same_maps d c w x here here small_rights_fit fit joined transferred))

    of_general : (a b : Action)
        → general.GoesOver small_rights owner_rights homes hides general.same_maps (given_at here)
        (general.args_at here) (general.args_at here) w x a b → GoesOver homes hides (given_at here) w x a b
    of_general (Done v) b h = (
      h.0,
      h.1,
      record {
        memory = owner_embeds homes _ _ h.2.memory;
        nulls = h.2.nulls;
        bounds = h.2.bounds;
        events = h.2.events;
        answers = h.2.answers;
        allocs = h.2.allocs;
      },
      record {
        stands = h.3.stands;
        source = h.3.source;
        target = h.3.target;
        room = subst (λ (p : ℕ × ℕ). p.0 ≤ p.1) (λ i. (sym h.3.length_source i, sym h.3.length_target i)) read.room;
      },
    )
    of_general (NewSlot v slot) b h = absurd h
    of_general (Enter func args result must_tail) b h = h
    of_general (Coro i args result) b h = h.1 ∙ ap (λ z. Coro i z result) (sym h.0)
    of_general (Deallocate p) b h = h
    of_general (GoTo label) b h = h
    of_general (Return None) b h = h
    of_general (Return (Some v)) b h = h
    of_general (Stuck cause) b h = tt

    pub step_over : GoesOver homes hides (given_at here) w x (action_of c w here) (action_of c x here)
    step_over = ⊎_elim
        (λ e. of_general (action_of c w here) (action_of c x here)
        (subst (λ g. general.GoesOver small_rights owner_rights homes hides general.same_maps g (general.args_at here)
        (general.args_at here) w x (action_of c w here) (action_of c x here)) e goes))
        (λ h. subst (λ z. GoesOver homes hides (given_at z) w x (action_of c w z) (action_of c x z)) (sym h.4) refl)
        (here_given here)
