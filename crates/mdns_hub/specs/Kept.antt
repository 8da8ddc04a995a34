-- What is kept of the link, and the order of the packets under way.
use Rattle.mdns_hub.specs.declared.link.Link.{Link}
use Rattle.mdns_hub.specs.Links.{LinkState}

-- the link, as it is kept
abbrev pub link_of : Link → LinkState
link_of link = record { delay = link.delay; losses = link.losses; parted = link.parted.items; under_way = link.under_way.items }
