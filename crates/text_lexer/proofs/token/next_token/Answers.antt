use Rattle.std.proofs.Common.{◌≡◌, ◌≤◌, ◌+◌, ◌-◌, ℕ, List, length, drop, arith, ap, subst, ◌∙◌}
use Rattle.std.proofs.lemmas.List.{length-drop}
use Rattle.text_lexer.specs.declared.token.Kind.{Kind}
use Rattle.text_lexer.specs.Scan.{blank_len}
use Rattle.text_lexer.specs.Token.{IsLongest}
use Rattle.text_lexer.specs.Next.{IsTokenAfter}
use Rattle.text_lexer.proofs.Tokens.{longest_some}
use Rattle.text_lexer.proofs.FirstTokens.{some_first, none_first, end_first}
use Rattle.text_lexer.proofs.token.next_token.Goals as goal

token_after : (text rest : List ℕ) (at blanks n : ℕ) (k : Kind) → blanks ≡ blank_len (drop at text) → rest ≡ drop (at + blanks) text → IsLongest rest k n → IsTokenAfter text at k (at + blanks) (at + blanks + n)
token_after text rest at blanks n k e r l =
    let some = longest_some rest k n l in
    let len : (at + blanks + n) - (at + blanks) ≡ n = omega arith in
    record {
      first = ap (λ (m : ℕ). at + m) e;
      longest = rw len (subst (λ (t : List ℕ). IsLongest t k n) r l);
      some = omega arith;
    }

pub overflow_add-result : goal.overflow_add-result
overflow_add-result c =
    let within : c.in-Some.len ≤ length c.split_at-2.result.1.now = c.in-Some.ensures.longest.within in
    let rest = ap (length {A = ℕ}) c.split_at-2.ensures.back in
    omega (arith, length-drop (c.args.at + c.blank_len.result) c.args.text.now)

pub returns-in-Some-clause-token : goal.returns-in-Some-clause-token
returns-in-Some-clause-token c =
    let blanks : c.blank_len.result ≡ blank_len (drop c.args.at c.args.text.now) = c.blank_len.ensures.value ∙ ap blank_len c.split_at.ensures.back in
    token_after c.args.text.now _ c.args.at c.blank_len.result c.in-Some.len c.in-Some.kind blanks c.split_at-2.ensures.back c.in-Some.ensures.longest

pub returns-then-start-text-clause-first : goal.returns-then-start-text-clause-first
returns-then-start-text-clause-first c =
    let blanks : c.blank_len.result ≡ blank_len (drop c.args.at c.args.text.now) = c.blank_len.ensures.value ∙ ap blank_len c.split_at.ensures.back in
    end_first c.args.text.now c.args.at c.blank_len.result blanks c.if-start-text.true

pub returns-in-Some-clause-first : goal.returns-in-Some-clause-first
returns-in-Some-clause-first c =
    let blanks : c.blank_len.result ≡ blank_len (drop c.args.at c.args.text.now) = c.blank_len.ensures.value ∙ ap blank_len c.split_at.ensures.back in
    some_first c.args.text.now _ c.args.at c.blank_len.result c.in-Some.len c.in-Some.kind blanks c.split_at-2.ensures.back c.in-Some.ensures.value

pub returns-in-None-clause-first : goal.returns-in-None-clause-first
returns-in-None-clause-first c =
    let blanks : c.blank_len.result ≡ blank_len (drop c.args.at c.args.text.now) = c.blank_len.ensures.value ∙ ap blank_len c.split_at.ensures.back in
    none_first c.args.text.now _ c.args.at c.blank_len.result blanks c.split_at-2.ensures.back c.in-None.ensures.value
