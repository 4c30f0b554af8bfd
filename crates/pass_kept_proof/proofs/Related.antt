-- States that are the same but for values that are not needed.
use Rattle.std.proofs.Common.{◌≡◌, ℕ, zero, suc, ◌+◌, Bool, true, false, List, [], ◌∷◌, ◌++◌, length, Option, Some, None, Result, Ok, Err, refl, sym, ap, subst}
use Rattle.std.specs.Prelude.{IsTrue, IsFalse, slice_get, slice_set, if◌then◌else◌, option_map, option_and_then}
use Rattle.pass_kept_proof.specs.Needed.{BranchesTo, PassesBy, label_of_block, phis_at, phis_give, phis_read, reads_at, read, next, phi, enter}
pub use Rattle.pass_kept_proof.specs.Related.{AreBelow, AreInstances, IsInstance, IsStatus, Needs, Related, Wants, like}
use Rattle.pass_kept_proof.proofs.Same.{SameOn, phis_same, same_result}
use Rattle.run_memory.specs.declared.pointer.Pointer.{Pointer}
use Rattle.run_memory.specs.declared.pointer.Value.{Value}
use Rattle.ir_base.specs.declared.cause.Cause.{Cause}
use Rattle.run_source.specs.Indexes.{last_from, or_else}
use Rattle.run_source.specs.Source.{enter_block}
use Rattle.run_source.specs.State.{began_at, function_of, gives, instance_at, is_finished, is_suspended, last_where, numbered, own_instance}
use Rattle.run_source.specs.declared.state.Activation.{Activation}
use Rattle.run_source.specs.declared.state.Instance.{Instance}
use Rattle.run_source.specs.declared.state.Mode.{Mode}
use Rattle.run_source.specs.declared.state.State.{State}
use Rattle.run_source.specs.declared.state.Status.{Status}
use Rattle.ir_model.specs.Names.{function_at, position_of}
use Rattle.ir_model.specs.declared.module.Function.{Function}
use Rattle.run_step.specs.Results.{and_then, found, ok_if}
use Rattle.run_step.specs.Step.{fetch}
use Rattle.run_step.specs.Values.{Env, with_result}
use Rattle.run_source.specs.run_source_tables.Given.{Given}

-- ---- which values an activation needs

pub needs_read : (mode : Mode) (f : Function) (block at v : ℕ) → IsTrue (reads_at v (fetch f block at)) → Needs mode f block at v
needs_read Mode.Resumed f block at v h = read h
needs_read _ f block at v h = tt

pub needs_next : (mode : Mode) (f : Function) (block at v : ℕ) → Needs mode f block (at + 1) v → PassesBy v (fetch f block at) → Needs mode f block at v
needs_next Mode.Resumed f block at v n h = next h n
needs_next _ f block at v n h = tt

pub needs_phi : (mode : Mode) (f : Function) (block at v label : ℕ) → BranchesTo label (fetch f block at) → IsTrue (phis_read v (label_of_block f block) (phis_at f label)) → Needs mode f block at v
needs_phi Mode.Resumed f block at v label b h = phi label b h
needs_phi _ f block at v label b h = tt

pub needs_enter : (mode : Mode) (f : Function) (block at v label : ℕ) → BranchesTo label (fetch f block at) → Needs mode f (position_of f label) 0 v → IsFalse (phis_give v (phis_at f label)) → Needs mode f block at v
needs_enter Mode.Resumed f block at v label b n h = enter label b h n
needs_enter _ f block at v label b n h = tt

pub needs_all : (mode : Mode) (f : Function) (block at v : ℕ) → (mode ≡ Mode.Resumed → ⊥) → Needs mode f block at v
needs_all Mode.Resumed f block at v ne = absurd (ne refl)
needs_all _ f block at v ne = tt

-- where the first goes on, the second goes on to a related state
abbrev pub Goes : Given → Result State Cause → Result State Cause → Type 0
Goes g (Err cause) r = Unit {0}
Goes g (Ok s) (Err cause) = ⊥
Goes g (Ok s) (Ok t) = Related g s t

-- ---- results

pub then_same : (g : Given) {A : Type 0} (r : Result A Cause) (f f' : A → Result State Cause) → ((a : A) → Goes g (f a) (f' a)) → Goes g (and_then r f) (and_then r f')
then_same g (Err cause) f f' h = tt
then_same g (Ok a) f f' h = h a

pub then_goes : (g : Given) (r r' : Result State Cause) (f f' : State → Result State Cause) → Goes g r r' → ((s t : State) → Related g s t → Goes g (f s) (f' t)) → Goes g (and_then r f) (and_then r' f')
then_goes g (Err cause) r' f f' k h = tt
then_goes g (Ok s) (Err cause) f f' k h = absurd k
then_goes g (Ok s) (Ok t) f f' k h = h s t k

pub ok_goes : (g : Given) (b b' : Bool) (cause : Cause) (s t : State) → b' ≡ b → Related g s t → Goes g (ok_if b cause s) (ok_if b' cause t)
ok_goes g b b' cause s t e r = subst (λ c. Goes g (ok_if b cause s) (ok_if c cause t)) (sym e) (on b)
  where
    on : (b : Bool) → Goes g (ok_if b cause s) (ok_if b cause t)
    on true = r
    on false = tt

-- ---- lists of instances

pub instances_length : (g : Given) (xs ys : List Instance) → AreInstances g xs ys → length ys ≡ length xs
instances_length g [] [] h = refl
instances_length g [] (y ∷ ys) h = absurd h
instances_length g (x ∷ xs) [] h = absurd h
instances_length g (x ∷ xs) (y ∷ ys) h = ap suc (instances_length g xs ys h.1)

pub instances_push : (g : Given) (xs ys : List Instance) (x y : Instance) → AreInstances g xs ys → IsInstance g x y → AreInstances g (xs ++ x ∷ []) (ys ++ y ∷ [])
instances_push g [] [] x y h k = (k, tt)
instances_push g [] (y' ∷ ys) x y h k = absurd h
instances_push g (x' ∷ xs) [] x y h k = absurd h
instances_push g (x' ∷ xs) (y' ∷ ys) x y h k = (h.0, instances_push g xs ys x y h.1 k)

pub instances_set : (g : Given) (xs ys : List Instance) (i : ℕ) (x y : Instance) → AreInstances g xs ys → IsInstance g x y → AreInstances g (slice_set xs i x) (slice_set ys i y)
instances_set g [] [] i x y h k = tt
instances_set g [] (y' ∷ ys) i x y h k = absurd h
instances_set g (x' ∷ xs) [] i x y h k = absurd h
instances_set g (x' ∷ xs) (y' ∷ ys) zero x y h k = (k, h.1)
instances_set g (x' ∷ xs) (y' ∷ ys) (suc i) x y h k = (h.0, instances_set g xs ys i x y h.1 k)

pub below_length : (g : Given) (r : Option ℕ) (as' bs : List Activation) → AreBelow g r as' bs → length bs ≡ length as'
below_length g r [] [] h = refl
below_length g r [] (b ∷ bs) h = absurd h
below_length g r (a ∷ as') [] h = absurd h
below_length g r (a ∷ as') (b ∷ bs) h = ap suc (below_length g a.result as' bs h.1)

abbrev MayBe : Given → Option Instance → Option Instance → Type 0
MayBe g None None = Unit {0}
MayBe g None (Some y) = ⊥
MayBe g (Some x) None = ⊥
MayBe g (Some x) (Some y) = IsInstance g x y

instances_get : (g : Given) (xs ys : List Instance) (i : ℕ) → AreInstances g xs ys → MayBe g (slice_get xs i) (slice_get ys i)
instances_get g [] [] i h = tt
instances_get g [] (y ∷ ys) i h = absurd h
instances_get g (x ∷ xs) [] i h = absurd h
instances_get g (x ∷ xs) (y ∷ ys) zero h = h.0
instances_get g (x ∷ xs) (y ∷ ys) (suc i) h = instances_get g xs ys i h.1

-- both find an instance of one number, or neither does
abbrev pub AreFound : Given → List Instance → Option (ℕ × Instance) → Option (ℕ × Instance) → Type 0
AreFound g xs None None = Unit {0}
AreFound g xs None (Some q) = ⊥
AreFound g xs (Some p) None = ⊥
AreFound g xs (Some p) (Some q) =
    (t : Status) × (q ≡ (p.0, record p.1 { status = t })) × IsStatus (function_at g.code p.1.coroutine) p.1.status t × (slice_get xs p.0 ≡ Some p.1)

pub numbered_found : (g : Given) (xs ys : List Instance) (i : ℕ) → AreInstances g xs ys → AreFound g xs (numbered xs i) (numbered ys i)
numbered_found g xs ys i h = on (slice_get xs i) (slice_get ys i) refl (instances_get g xs ys i h)
  where
    on : (o o' : Option Instance) → slice_get xs i ≡ o → MayBe g o o' → AreFound g xs (option_map (λ x. (i, x)) o) (option_map (λ x. (i, x)) o')
    on None None e k = tt
    on None (Some y) e k = absurd k
    on (Some x) None e k = absurd k
    on (Some x) (Some y) e k = (k.0, ap (λ (z : Instance). (i, z)) k.1, k.2, e)

option_found : (g : Given) (xs ys : List Instance) (o : Option ℕ) → AreInstances g xs ys → AreFound g xs (option_and_then (numbered xs) o) (option_and_then (numbered ys) o)
option_found g xs ys None h = tt
option_found g xs ys (Some i) h = numbered_found g xs ys i h

pub own_found : (g : Given) (s : State) (ws : Env) (bs : List Activation) (ys : List Instance) → AreInstances g s.instances ys → AreFound g s.instances (own_instance s) (own_instance (like s ws bs ys))
own_found g s ws bs ys h = option_found g s.instances ys s.top.instance h

last_same : (g : Given) (b o i : ℕ) (xs ys : List Instance) → AreInstances g xs ys → last_from (began_at b o) i ys ≡ last_from (began_at b o) i xs
last_same g b o i [] [] h = refl
last_same g b o i [] (y ∷ ys) h = absurd h
last_same g b o i (x ∷ xs) [] h = absurd h
last_same g b o i (x ∷ xs) (y ∷ ys) h =
    let e : last_from (began_at b o) (suc i) ys ≡ last_from (began_at b o) (suc i) xs = last_same g b o (suc i) xs ys h.1 in
    let k : began_at b o y ≡ began_at b o x = ap (λ (z : Instance). began_at b o z) h.0.1 in
    λ j. or_else (e j) (if k j then Some i else None)

pub at_found : (g : Given) (xs ys : List Instance) (p : Value) → AreInstances g xs ys → AreFound g xs (instance_at xs p) (instance_at ys p)
at_found g xs ys (Value.Ptr (Pointer.At block offset)) h =
    subst (λ (o : Option ℕ). AreFound g xs (last_where (began_at block offset.bits) xs) (option_and_then (numbered ys) o)) (sym (last_same g block offset.bits 0 xs ys h)) (option_found g xs ys (last_from (began_at block offset.bits) 0 xs) h)
at_found g xs ys _ h = tt

pub found_goes : (g : Given) (cause : Cause) (xs : List Instance) (o o' : Option (ℕ × Instance)) (f f' : ℕ × Instance → Result State Cause) → AreFound g xs o o' → ((i : ℕ) (x : Instance) (t : Status) → slice_get xs i ≡ Some x → IsStatus (function_at g.code x.coroutine) x.status t → Goes g (f (i, x)) (f' (i, record x { status = t }))) → Goes g (and_then (found cause o) f) (and_then (found cause o') f')
found_goes g cause xs None o' f f' k h = tt
found_goes g cause xs (Some p) None f f' k h = absurd k
found_goes g cause xs (Some p) (Some q) f f' k h = subst (λ (z : ℕ × Instance). Goes g (f p) (f' z)) (sym k.1) (h p.0 p.1 k.0 k.3 k.2)

pub suspended_same : (f : Function) (a b : Status) → IsStatus f a b → is_suspended b ≡ is_suspended a
suspended_same f Status.Running b h = ap is_suspended h
suspended_same f (Status.Suspended suspend vs) b h = ap is_suspended h.1
suspended_same f Status.Finished b h = ap is_suspended h

pub finished_same : (f : Function) (a b : Status) → IsStatus f a b → is_finished b ≡ is_finished a
finished_same f Status.Running b h = ap is_finished h
finished_same f (Status.Suspended suspend vs) b h = ap is_finished h.1
finished_same f Status.Finished b h = ap is_finished h

-- ---- changes of a state

module _ (g : Given) (s : State) (ws : Env) (bs : List Activation) (ys : List Instance) (Q : ℕ → Type 0) (same : SameOn Q s.top.values ws) (acts : AreBelow g s.top.result s.below bs) (insts : AreInstances g s.instances ys) where
  pub gives_related : (result : Option ℕ) (x : Value) → ((v : ℕ) → Needs s.top.mode (function_of g s) s.top.block (s.top.at + 1) v → (result ≡ Some v → ⊥) → Q v) → Related g (gives s result x) (gives (like s ws bs ys) result x)
  gives_related result x h = record {
    values = with_result ws result x;
    below = bs;
    instances = ys;
    is = refl;
    same = same_result _ Q s.top.values ws result x same h;
    acts = acts;
    insts = insts;
  }

  pub entered : (label : ℕ) → ((v : ℕ) → IsTrue (phis_read v (label_of_block (function_of g s) s.top.block) (phis_at (function_of g s) label)) → Q v) → ((v : ℕ) → Needs s.top.mode (function_of g s) (position_of (function_of g s) label) 0 v → IsFalse (phis_give v (phis_at (function_of g s) label)) → Q v) → Related g (enter_block g s label) (enter_block g (like s ws bs ys) label)
  entered label rd nx = record {
    values = _;
    below = bs;
    instances = ys;
    is = refl;
    same = phis_same g.code _ Q s.top.values ws (label_of_block (function_of g s) s.top.block) (phis_at (function_of g s) label) same rd nx;
    acts = acts;
    insts = insts;
  }
