use Rattle.std.proofs.Common.{rules, ◌≡◌, ◌++◌, List, ℕ, OnOk, string_bytes, codes, decimal, subst}
use Rattle.vs_outside.specs.HostBytes.{read_after_ok, wrote_after_connect}
use Rattle.vs_report.specs.{Bytes.{counted_text, excerpt_text}, Report.{labelled_text, stream_text}}
use Rattle.vs_report.proofs.Excerpts.{behind_number, same_text}
use Rattle.vs_report.proofs.report.push_stream.Goals as goal

pub returns : goal.returns
returns c =
    let s = c.args.stream.now in
    let front = string_bytes c.push_str.new.self in
    let numbered : string_bytes c.push_number.new.out ≡ string_bytes c.args.out.now ++ (codes "stream " ++ decimal c.args.number) = search rules in
    let spaced : front ≡ string_bytes c.push_number.new.out ++ codes " " = search rules in
    let text : front ++ labelled_text c.label.result (excerpt_text c.wrote_after_connect.result.now) (excerpt_text c.read_after_ok.result.now)
    ≡ string_bytes c.args.out.now ++ stream_text c.args.number s =
    rw (c.label.ensures, c.wrote_after_connect.ensures, c.read_after_ok.ensures, same_text (wrote_after_connect s), same_text (read_after_ok s), spaced)
    (behind_number (string_bytes c.push_number.new.out) (string_bytes c.args.out.now) (codes "stream " ++ decimal c.args.number) (codes " ")
    (labelled_text s.label (counted_text (wrote_after_connect s)) (counted_text (read_after_ok s))) numbered) in
    subst (λ (bytes : List ℕ). OnOk c.push_labelled.result (string_bytes c.push_labelled.new.out ≡ bytes)) text c.push_labelled.ensures
