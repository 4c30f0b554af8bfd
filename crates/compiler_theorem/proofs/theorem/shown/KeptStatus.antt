-- Where an instance of a source is suspended it is so where resumes hand on less, with the values that are needed.
use Rattle.std.proofs.Common.{false, ◌≡◌, inl, inr, ℕ, zero, suc, List, [], ◌∷◌, ◌++◌, Some, None, map, length, take, replicate, refl, sym, ap, ◌∙◌, subst}
use Rattle.std.proofs.lemmas.Option.{slice_get-map}
use Rattle.std.specs.Prelude.{ℤ, option_map, slice_get}
use Rattle.compiler.specs.ir_model.Names.{function_at}
use Rattle.compiler.specs.ir_model.declared.module.Frame.{Frame}
use Rattle.compiler.specs.ir_model.declared.module.Module.{Module}
use Rattle.compiler.specs.ir_paths.declared.point.Point.{Point}
use Rattle.compiler.specs.pass_early.Early.{early_module}
use Rattle.compiler.specs.pass_kept_proof.Needed.{IsNeededBehind}
use Rattle.compiler.specs.pass_kept_proof.Related.{AreInstances, IsInstance, IsStatus}
use Rattle.compiler.proofs.pass_proofs.early.path_rules.RenamedOperands.{map_was}
use Rattle.compiler.specs.pass_proofs.early.early_states.Beside.{unsaved_module}
use Rattle.compiler.specs.pass_proofs.early.save_states.SavedState.{saved_instance, saved_status, saved_values}
use Rattle.compiler.specs.pass_proofs.early.saves.SavesWritten.{save_count}
use Rattle.compiler.specs.pass_proofs.early.saves.Spots.{back_of}
use Rattle.compiler.specs.pass_proofs.edges.states.MovedState.{edge_count, edges_split, moved_instance, moved_status, moved_values}
use Rattle.compiler.specs.pass_proofs.kept.sources.Beside.{IsKeptOf}
use Rattle.compiler.specs.run_source.Source.{given}
use Rattle.compiler.specs.run_source.declared.state.Instance.{Instance}
use Rattle.compiler.specs.run_source.declared.state.State.{State}
use Rattle.compiler.specs.run_source.declared.state.Status.{Status}
use Rattle.compiler.specs.run_source_tables.Given.{Given}
use Rattle.compiler.specs.run_states.shortened.Shortened.{cut, short_instance, short_status}
use Rattle.compiler.specs.run_step.Values.{Env}
use Rattle.compiler_theorem.specs.theorem.Suspended.{HasValue, IsSuspendedAlike, IsSuspendedAs, kept_place}

-- ---- values

value_then : (a b c : Env) (v : ℕ) → HasValue a b v → HasValue b c v → HasValue a c v
value_then a b c v (inl e) k = inl e
value_then a b c v (inr e) (inl d) = inl (sym e ∙ d)
value_then a b c v (inr e) (inr d) = inr (d ∙ e)

value_longer : (env : Env) (k v : ℕ) → HasValue env (env ++ replicate k None) v
value_longer [] k v = inl refl
value_longer (x ∷ env) k zero = inr refl
value_longer (x ∷ env) k (suc v) = value_longer env k v

value_uncut : (n : ℕ) (env : Env) (v : ℕ) → HasValue (take n env) env v
value_uncut zero env v = inl refl
value_uncut (suc n) [] v = inl refl
value_uncut (suc n) (x ∷ env) zero = inr refl
value_uncut (suc n) (x ∷ env) (suc v) = value_uncut n env v

-- ---- one pass

-- suspended so in the one, and in the other with other values
record HasOther (ys : List Instance) (i c : ℕ) (p : Point) (values : Env) : Type 0 where
  others : Env
  own : IsSuspendedAs ys i c p others
  each : (v : ℕ) → HasValue values others v

mapped_as : (f : Instance → Instance) (xs ys : List Instance) → ys ≡ map f xs → (i c : ℕ) (p q : Point)
    (values others : Env) → ((x : Instance) → (f x).coroutine ≡ x.coroutine)
    → ((x : Instance) → x.coroutine ≡ c → x.status ≡ Status.Suspended p values
    → (f x).status ≡ Status.Suspended q others) → ((x : Instance) → (f x).freed ≡ x.freed)
    → IsSuspendedAs xs i c p values → IsSuspendedAs ys i c q others
mapped_as f xs ys is i c p q values others own status freed h = record {
  instance = f h.instance;
  there = ap (λ (zs : List Instance). slice_get zs i) is ∙ slice_get-map f xs i ∙ ap (option_map f) h.there;
  coroutine = own h.instance ∙ h.coroutine;
  status = status h.instance h.coroutine h.status;
  unfreed = freed h.instance ∙ h.unfreed;
}

uncut : (m : Module) (xs ys : List Instance) → xs ≡ map (short_instance m) ys → (i c : ℕ) (p : Point) (values : Env)
    → IsSuspendedAs xs i c p values → HasOther ys i c p values
uncut m xs ys is i c p values h =
    let z = map_was (short_instance m) ys i h.instance
    (ap (λ (zs : List Instance). slice_get zs i) (sym is) ∙ h.there) in
    let own : z.0.coroutine ≡ c = ap (λ (u : Instance). u.coroutine) (sym z.1.1) ∙ h.coroutine in
    let status : short_status m z.0.coroutine z.0.status ≡ Status.Suspended p values =
    ap (λ (u : Instance). u.status) (sym z.1.1) ∙ h.status in
    on z.0 z.1.0 own (ap (λ (u : Instance). u.freed) (sym z.1.1) ∙ h.unfreed) z.0.status refl status
  where
    point_of : Status → Point
    point_of (Status.Suspended q env) = q
    point_of Status.Running = p
    point_of Status.Finished = p

    env_of : Status → Env
    env_of (Status.Suspended q env) = env
    env_of Status.Running = values
    env_of Status.Finished = values

    on : (z : Instance) → slice_get ys i ≡ Some z → z.coroutine ≡ c → z.freed ≡ false → (u : Status) → z.status ≡ u
        → short_status m z.coroutine u ≡ Status.Suspended p values → HasOther ys i c p values
    on z there own unfreed Status.Running e d = absurd (cc)
    on z there own unfreed Status.Finished e d = absurd (cc)
    on z there own unfreed (Status.Suspended q env) e d =
        let at : q ≡ p = ap point_of d in
        let cuts : cut m z.coroutine env ≡ values = ap env_of d in
        record {
          others = env;
          own = record {
            instance = z;
            there = there;
            coroutine = own;
            status = e ∙ ap (λ (k : Point). Status.Suspended k env) at;
            unfreed = unfreed;
          };
          each = λ v. subst (λ (w : Env). HasValue w env v) cuts
              (value_uncut (length (function_at m z.coroutine).names) env v);
        }

-- where resumes hand on less, what is needed is the same
record HasNeeded (g : Given) (ys : List Instance) (i c : ℕ) (p : Point) (values : Env) : Type 0 where
  others : Env
  own : IsSuspendedAs ys i c p others
  each : (v : ℕ) → IsNeededBehind (function_at g.code c) p v → HasValue values others v

needed_on : (g : Given) (x y : Instance) (ys : List Instance) (i c : ℕ) (p : Point) (values : Env) → IsInstance g x y
    → slice_get ys i ≡ Some y → x.coroutine ≡ c → x.status ≡ Status.Suspended p values → x.freed ≡ false
    → HasNeeded g ys i c p values
needed_on g x y ys i c p values h there own e unfreed =
    let is = subst (λ (u : Status). IsStatus (function_at g.code x.coroutine) u h.0) e h.2 in
    record {
      others = is.0;
      own = record {
        instance = y;
        there = there;
        coroutine = ap (λ (u : Instance). u.coroutine) h.1 ∙ own;
        status = ap (λ (u : Instance). u.status) h.1 ∙ is.1;
        unfreed = ap (λ (u : Instance). u.freed) h.1 ∙ unfreed;
      };
      each = λ v n. inr (is.2.each v (subst (λ (k : ℕ). IsNeededBehind (function_at g.code k) p v) (sym own) n));
    }

needed : (g : Given) (xs ys : List Instance) → AreInstances g xs ys → (i c : ℕ) (p : Point) (values : Env)
    (x : Instance) → slice_get xs i ≡ Some x → x.coroutine ≡ c → x.status ≡ Status.Suspended p values
    → x.freed ≡ false → HasNeeded g ys i c p values
needed g [] ys h i c p values x there own e f = absurd (cc)
needed g (z ∷ xs) [] h i c p values x there own e f = absurd h
needed g (z ∷ xs) (y ∷ ys) h zero c p values x there own e f =
    let same : z ≡ x = cc in
    needed_on g x y (y ∷ ys) zero c p values (subst (λ (u : Instance). IsInstance g u y) same h.0) refl own e f
needed g (z ∷ xs) (y ∷ ys) h (suc i) c p values x there own e f =
    let r = needed g xs ys h.1 i c p values x there own e f in
    let is = r.own in
    record {
      others = r.others;
      own = record {
        instance = is.instance;
        there = is.there;
        coroutine = is.coroutine;
        status = is.status;
        unfreed = is.unfreed;
      };
      each = r.each;
    }

-- ---- all passes

module _ (m : Module) (sizes : List Frame) (answers : List ℤ) (s t : State) (kept : IsKeptOf m sizes answers s t)
    (i c : ℕ) (p : Point) (values : Env) (h : IsSuspendedAs s.instances i c p values) where
  abbrev g : Given
  g = given (edges_split (early_module m)) sizes answers

  abbrev bare : Module
  bare = unsaved_module m

  abbrev full : State
  full = kept.1.1.0

  abbrev saved : State
  saved = kept.1.0

  abbrev split : State
  split = kept.0

  longer : HasOther full.instances i c p values
  longer = uncut m s.instances full.instances (ap (λ (u : State). u.instances) kept.1.1.1.is) i c p values h

  abbrev saved_env : Env
  saved_env = saved_values (function_at bare c) longer.others

  saved_as : IsSuspendedAs saved.instances i c (back_of (function_at bare c) p) saved_env
  saved_as = mapped_as (saved_instance bare) full.instances saved.instances
      (ap (λ (u : State). u.instances) kept.1.1.2.is) i c p (back_of (function_at bare c) p) longer.others saved_env
      (λ x. refl) (λ x own e. λ j. saved_status (function_at bare (own j)) (e j)) (λ x. refl) longer.own

  abbrev split_env : Env
  split_env = moved_values (function_at (early_module m) c) saved_env

  split_as : IsSuspendedAs split.instances i c (kept_place m c p) split_env
  split_as = mapped_as (moved_instance (early_module m)) saved.instances split.instances
      (ap (λ (u : State). u.instances) kept.1.2.is) i c (back_of (function_at bare c) p) (kept_place m c p) saved_env
      split_env (λ x. refl) (λ x own e. λ j. moved_status (function_at (early_module m) (own j)) (e j)) (λ x. refl)
      saved_as

  kept_as : HasNeeded g t.instances i c (kept_place m c p) split_env
  kept_as = needed g split.instances t.instances (subst (AreInstances g split.instances)
      (sym (ap (λ (u : State). u.instances) kept.2.0.is)) kept.2.0.insts) i c (kept_place m c p) split_env
      split_as.instance split_as.there split_as.coroutine split_as.status split_as.unfreed

  pub kept_suspended : IsSuspendedAlike m t.instances i c p values
  kept_suspended = record {
    others = kept_as.others;
    as_it_was = kept_as.own;
    each = λ v n. value_then values longer.others kept_as.others v (longer.each v)
        (value_then longer.others saved_env kept_as.others v
        (value_longer longer.others (save_count (function_at bare c)) v)
        (value_then saved_env split_env kept_as.others v
        (value_longer saved_env (edge_count (function_at (early_module m) c)) v) (kept_as.each v n)));
  }
