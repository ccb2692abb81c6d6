use Rattle.std.proofs.Common.{◌*◌, arith, rules, ap, ◌∙◌}
use Rattle.std.proofs.lemmas.List.{get_or-set_other, length-set}
use Rattle.or_isa.specs.Decode.{decode_of}
use Rattle.or_icache.specs.Decoded.{IsDecoded}
use Rattle.or_icache.proofs.Decodes.{decoded-more}
use Rattle.or_icache.proofs.decode_line.Goals as goal

pub loop-k-preserved : goal.loop-k-preserved
loop-k-preserved c =
    let this : IsDecoded c.args.bytes.now (c.loop-k.k * 4) c.decode.result = record { value = c.decode.ensures.value ∙ ap decode_of c.word_at.ensures; fits = search (rules, c.decode.ensures.found) } in
    record {
      places = length-set c.loop-k.insns _ c.decode.result ∙ c.loop-k.invariant.places;
      here = decoded-more c.loop-k.insns c.args.bytes.now c.args.index c.loop-k.k c.decode.result (omega (arith, c.loop-k.invariant.places)) this c.loop-k.invariant.here;
      elsewhere = λ place other. get_or-set_other c.loop-k.insns _ place c.decode.result _ (omega arith) ∙ c.loop-k.invariant.elsewhere place other;
    }
