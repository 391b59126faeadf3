-- The bracket is sealed.
use Rattle.std.proofs.Common.{◌≡◌, rules}
use Rattle.reading.specs.Sealed.{placed}
use Rattle.reading.proofs.Reading.{sealed_at}
use Rattle.reading.proofs.read.DictionaryClosingPairReadFault.close.Goals as goal

pub returns : goal.returns
returns g c = λ l h.
    let is : c.map_err.result ≡ placed c.args.place c.seal.result = search rules in
    sealed_at c.args.self.now c.seal.new.self l c.args.place c.seal.result c.map_err.result (c.seal.ensures.seals l h) is c.seal.ensures.room c.seal.ensures.sound c.seal.ensures.small
