use Rattle.std.proofs.Common.{rules, ◌∙◌, refl, ap, inl, inr}
use Rattle.csv.specs.Reading.{strip_bom}
use Rattle.md_records.proofs.records.reader_of.Goals as goal

pub returns-in-Ok-clause-reading : goal.returns-in-Ok-clause-reading
returns-in-Ok-clause-reading c =
    let same = c.in-Ok.ensures.same in
    record {
      trim_none = ap (λ r. r.trim) same ∙ search rules;
      config = ap (λ r. r.config) same ∙ search rules;
      flexible = ap (λ r. r.flexible) same ∙ search rules;
      ready = inr (inl (ap (λ r. r.has_headers) same ∙ search rules, c.in-Ok.ensures.set));
      between = rw (same, c.from_reader-reader.ensures.state) refl;
      bytes = strip_bom c.args.text.now;
      known = rw same c.from_reader-reader.ensures.source;
    }
