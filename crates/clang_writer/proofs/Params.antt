-- Turns of the loop over the tokens of parameters.
use Rattle.std.proofs.Common.{◌≡◌, ℕ, ◌+◌, ◌<◌, ◌≤◌, length, drop, get_or, List, [], ◌∷◌, ◌++◌, refl, sym, ap, ◌∙◌, append_assoc}
use Rattle.std.proofs.lemmas.List.{at_drop_all, at_drop_more}
use Rattle.clang_tokens.specs.Brackets.{depth_after, sret_after}
use Rattle.clang_tokens.specs.declared.brackets.Sret.{Sret}
use Rattle.clang_writer.specs.declared.kept.Role.{Role}
use Rattle.clang_writer.specs.Kept.{by_role, kept_tokens, onto_all, onto_first, params_of, role_of}

-- lists, and tokens in front of what follows
abbrev pub before : List (List (List ℕ)) → List (List ℕ) → List (List (List ℕ)) → List (List (List ℕ))
before params param r = params ++ onto_all param r

onto-more : (ts ks : List (List ℕ)) (r : List (List (List ℕ))) → onto_all (ts ++ ks) r ≡ onto_all ts (onto_all ks r)
onto-more [] ks r = refl
onto-more (u ∷ ts) ks r = ap (onto_first u) (onto-more ts ks r)

onto-empty : (ts : List (List ℕ)) (r : List (List (List ℕ))) → onto_all ts ([] ∷ r) ≡ ts ∷ r
onto-empty [] r = refl
onto-empty (t ∷ ts) r = ap (onto_first t) (onto-empty ts r)

-- tokens that are kept
kept_more : (params : List (List (List ℕ))) (param ks : List (List ℕ)) (r : List (List (List ℕ)))
    → before params (param ++ ks) r ≡ before params param (onto_all ks r)
kept_more params param ks r = ap (λ (l : List (List (List ℕ))). params ++ l) (onto-more param ks r)

-- a parameter ends
ended : (params : List (List (List ℕ))) (param : List (List ℕ)) (r : List (List (List ℕ)))
    → before (params ++ param ∷ []) [] r ≡ before params param ([] ∷ r)
ended params param r =
    append_assoc params (param ∷ []) r ∙ ap (λ (l : List (List (List ℕ))). params ++ l) (sym (onto-empty param r))

-- the last parameter ends
last_ended : (params : List (List (List ℕ))) (param : List (List ℕ)) → params ++ param ∷ [] ≡ before params param ([] ∷ [])
last_ended params param = ap (λ (l : List (List (List ℕ))). params ++ l) (sym (onto-empty param []))

-- parameters whose first token does this to them
abbrev read_by : Role → ℕ → Sret → List ℕ → List (List ℕ) → List (List (List ℕ))
read_by role depth s t rest =
    by_role role (kept_tokens s t) (params_of 0 Sret.Outside rest) (params_of (depth_after depth t) (sret_after s t) rest)

read_at : (depth : ℕ) (s : Sret) (ts : List (List ℕ)) (i : ℕ) (t : List ℕ) → i < length ts → t ≡ get_or ts i t
    → params_of depth s (drop i ts) ≡ read_by (role_of depth t) depth s t (drop (i + 1) ts)
read_at depth s ts i t lt is =
    at_drop_more (params_of depth s) ts i t lt
    ∙ ap (λ (u : List ℕ). read_by (role_of depth u) depth s u (drop (i + 1) ts)) (sym is)

-- what stands from a position on, by what its token does
role_read : (params : List (List (List ℕ))) (param : List (List ℕ)) (depth : ℕ) (s : Sret) (ts : List (List ℕ)) (i : ℕ) (t : List ℕ)
    (role : Role) (whole : List (List (List ℕ)))
    → i < length ts → t ≡ get_or ts i t
    → before params param (params_of depth s (drop i ts)) ≡ whole
    → role_of depth t ≡ role
    → before params param (read_by role depth s t (drop (i + 1) ts)) ≡ whole
role_read params param depth s ts i t role whole lt is inv does =
    ap (λ (r : Role). before params param (read_by r depth s t (drop (i + 1) ts))) (sym does)
    ∙ ap (before params param) (sym (read_at depth s ts i t lt is))
    ∙ inv

-- the bracket behind the parameters
pub stop_turn : (params new : List (List (List ℕ))) (param : List (List ℕ)) (depth : ℕ) (s : Sret) (ts : List (List ℕ)) (i : ℕ)
    (t : List ℕ) (whole : List (List (List ℕ)))
    → i < length ts → t ≡ get_or ts i t
    → before params param (params_of depth s (drop i ts)) ≡ whole
    → role_of depth t ≡ Role.Closes
    → new ≡ params ++ param ∷ []
    → new ≡ whole
stop_turn params new param depth s ts i t whole lt is inv does put =
    put ∙ last_ended params param ∙ role_read params param depth s ts i t Role.Closes whole lt is inv does

-- a comma between parameters
pub part_turn : (params new : List (List (List ℕ))) (param fresh : List (List ℕ)) (depth depth-new : ℕ) (s s-new : Sret)
    (ts : List (List ℕ)) (i : ℕ) (t : List ℕ) (whole : List (List (List ℕ)))
    → i < length ts → t ≡ get_or ts i t
    → before params param (params_of depth s (drop i ts)) ≡ whole
    → role_of depth t ≡ Role.Parts
    → new ≡ params ++ param ∷ [] → fresh ≡ [] → depth-new ≡ 0 → s-new ≡ Sret.Outside
    → before new fresh (params_of depth-new s-new (drop (i + 1) ts)) ≡ whole
part_turn params new param fresh depth depth-new s s-new ts i t whole lt is inv does put empty none outside =
    ap (λ (l : List (List (List ℕ))). before l fresh (params_of depth-new s-new (drop (i + 1) ts))) put
    ∙ ap (λ (l : List (List ℕ)). before (params ++ param ∷ []) l (params_of depth-new s-new (drop (i + 1) ts))) empty
    ∙ ap (λ (d : ℕ). before (params ++ param ∷ []) [] (params_of d s-new (drop (i + 1) ts))) none
    ∙ ap (λ (z : Sret). before (params ++ param ∷ []) [] (params_of 0 z (drop (i + 1) ts))) outside
    ∙ ended params param (params_of 0 Sret.Outside (drop (i + 1) ts))
    ∙ role_read params param depth s ts i t Role.Parts whole lt is inv does

-- a token of a parameter
pub inside_turn : (params new : List (List (List ℕ))) (param next : List (List ℕ)) (depth depth-new : ℕ) (s s-new : Sret)
    (ts : List (List ℕ)) (i : ℕ) (t : List ℕ) (whole : List (List (List ℕ)))
    → i < length ts → t ≡ get_or ts i t
    → before params param (params_of depth s (drop i ts)) ≡ whole
    → role_of depth t ≡ Role.Inside
    → new ≡ params → next ≡ param ++ kept_tokens s t → depth-new ≡ depth_after depth t → s-new ≡ sret_after s t
    → before new next (params_of depth-new s-new (drop (i + 1) ts)) ≡ whole
inside_turn params new param next depth depth-new s s-new ts i t whole lt is inv does stays put deeper further =
    ap (λ (l : List (List (List ℕ))). before l next (params_of depth-new s-new (drop (i + 1) ts))) stays
    ∙ ap (λ (l : List (List ℕ)). before params l (params_of depth-new s-new (drop (i + 1) ts))) put
    ∙ ap (λ (d : ℕ). before params (param ++ kept_tokens s t) (params_of d s-new (drop (i + 1) ts))) deeper
    ∙ ap (λ (z : Sret). before params (param ++ kept_tokens s t) (params_of (depth_after depth t) z (drop (i + 1) ts))) further
    ∙ kept_more params param (kept_tokens s t) (params_of (depth_after depth t) (sret_after s t) (drop (i + 1) ts))
    ∙ role_read params param depth s ts i t Role.Inside whole lt is inv does

-- no token is left
pub params_end : (params new : List (List (List ℕ))) (param : List (List ℕ)) (depth : ℕ) (s : Sret) (ts : List (List ℕ)) (i : ℕ)
    (whole : List (List (List ℕ)))
    → length ts ≤ i
    → before params param (params_of depth s (drop i ts)) ≡ whole
    → new ≡ params ++ param ∷ []
    → new ≡ whole
params_end params new param depth s ts i whole le inv put =
    put ∙ last_ended params param ∙ ap (before params param) (sym (at_drop_all (params_of depth s) ts i le)) ∙ inv
