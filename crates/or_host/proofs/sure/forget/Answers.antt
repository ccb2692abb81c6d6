use Rattle.std.proofs.Common.{◌≡◌, ap, ◌∙◌, rules}
use Rattle.std.specs.List.{filter}
use Rattle.std.proofs.lemmas.Fn.{filter_same}
use Rattle.or_host.specs.Given.{given}
use Rattle.or_host.proofs.GivenLemmas.{is_other, given_none, given_other}
use Rattle.or_host.proofs.sure.forget.Goals as goal

pub returns-clause-own : goal.returns-clause-own
returns-clause-own c =
    let kept : c.retain.new.self.items ≡ filter (λ file. is_other c.args.name.now file.0) c.args.files.now.items =
    filter_same _ (λ file. is_other c.args.name.now file.0) _ (λ x b f e. (search rules, search rules)) _ _ c.retain.ensures.filtered in
    ap (λ files. given files c.args.name.now) kept ∙ given_none c.args.files.now.items c.args.name.now

pub returns-clause-others : goal.returns-clause-others
returns-clause-others c = λ other ne.
    let kept : c.retain.new.self.items ≡ filter (λ file. is_other c.args.name.now file.0) c.args.files.now.items =
    filter_same _ (λ file. is_other c.args.name.now file.0) _ (λ x b f e. (search rules, search rules)) _ _ c.retain.ensures.filtered in
    ap (λ files. given files other) kept ∙ given_other c.args.files.now.items c.args.name.now other ne
