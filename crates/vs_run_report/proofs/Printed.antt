-- The line of a connection, by what is kept of its bytes.
use Rattle.std.proofs.Common.{◌≡◌, ℕ, List, length, ap, ◌∙◌}
use Rattle.vs_excerpt.specs.{Excerpt.excerpt_of, declared.Excerpt.Excerpt}
use Rattle.laws_driver.specs.Carried.Calls.{received_by}
use Rattle.vs_apps_parts.specs.{Journals.{calls_of, sent_as}, Scripts.RunScript, declared.journal.Entry.Entry}
use Rattle.vs_report.{specs.Bytes.excerpt_text, proofs.Excerpts.same_text}
use Rattle.vs_run_report.specs.{Connections.{capped, connection_line, opened_text}, declared.connection.Opened.Opened}

pub opened_is : (script : RunScript) (bytes : List ℕ) (es fs : List Entry) (o : Opened) (sent : ℕ) (e : Excerpt) → fs ≡ es
    → sent ≡ capped (length (sent_as o.id (calls_of script bytes fs))) → e ≡ excerpt_of (received_by o.id (calls_of script bytes es))
    → connection_line o.flow sent (excerpt_text e) ≡ opened_text (calls_of script bytes es) o
opened_is script bytes es fs o sent e same many came =
    let journal = calls_of script bytes es in
    let all = capped (length (sent_as o.id journal)) in
    ap (λ (n : ℕ). connection_line o.flow n (excerpt_text e)) (many ∙ ap (λ (xs : List Entry). capped (length (sent_as o.id (calls_of script bytes xs)))) same)
    ∙ ap (λ (x : Excerpt). connection_line o.flow all (excerpt_text x)) came
    ∙ ap (λ (text : List ℕ). connection_line o.flow all text) (same_text (received_by o.id journal))
