use Rattle.std.proofs.Common.{◌≡◌, ℕ, List, Option, None}
use Rattle.std.specs.Prelude.{Some, IfSome, IfNone}
use Rattle.text_lexer.specs.Scan.{token_at}
use Rattle.text_lexer.specs.Token.{IsLongest, HasNone}
use Rattle.text_lexer.specs.declared.token.Kind.{Kind}
use Rattle.text_lexer.proofs.Tokens.{longest_token, no_token}
use Rattle.text_lexer.proofs.scan.token_at.Goals as goal

longest_if : (bs : List ℕ) (x : Option (Kind × ℕ)) → x ≡ token_at bs → IfSome x (λ p. IsLongest bs p.0 p.1)
longest_if bs None e = tt
longest_if bs (Some p) e = longest_token bs p.0 p.1 cc

none_if : (bs : List ℕ) (x : Option (Kind × ℕ)) → x ≡ token_at bs → IfNone x (HasNone bs)
none_if bs None e = no_token bs cc
none_if bs (Some p) e = tt

pub returns-clause-longest : goal.returns-clause-longest
returns-clause-longest c = longest_if c.args.text.now _ c.front_token.ensures

pub returns-clause-none : goal.returns-clause-none
returns-clause-none c = none_if c.args.text.now _ c.front_token.ensures
