use Rattle.std.proofs.Common.{refl}
use Rattle.der.specs.Write.{header}
use Rattle.reply.proofs.Elements.{element_is, first_fits, second_fits, both-written}
use Rattle.reply.proofs.parts.put_element.Goals as goal

pub put_header-p-requires : goal.put_header-p-requires
put_header-p-requires c = let a = c.args in first_fits a.buf.now a.at c.requires (header a.tag _) _ (element_is a.tag a.contents.now refl)

pub put_octets-requires : goal.put_octets-requires
put_octets-requires c =
    let a = c.args in second_fits a.buf.now a.at c.requires (header a.tag _) _ (element_is a.tag a.contents.now refl) c.put_header-p.ensures

pub returns : goal.returns
returns c =
    let a = c.args in
    both-written a.buf.now a.at c.requires (header a.tag _) _ (element_is a.tag a.contents.now refl) c.put_header-p.ensures c.put_octets.ensures
