-- Where a peer counts.
--     mapped four          the bits of the IPv6 address that is mapped to this IPv4 address
--     bits_of ip           the bits of an address as one of IPv6
--     origin_of address    an IPv4 address, also where it is mapped to IPv6; of any other the first 64 bits, and 0
use Rattle.std.specs.Prelude.{ℕ, ◌+◌, ◌*◌, ◌/◌, ◌^◌, nat_eq, if◌then◌else◌}
use Rattle.std.specs.Net.Addr.{ipv4_bits, ipv6_bits}
use Rattle.std.specs.Net.Socket.{socket_ip}
use Rattle.std.specs.declared.net.ip_addr.IpAddr.{IpAddr}
use Rattle.std.specs.declared.net.ip_addr.IpAddr.TheVariants.{V4, V6}
use Rattle.std.specs.declared.net.ipv4_addr.Ipv4Addr.{Ipv4Addr}
use Rattle.std.specs.declared.net.socket_addr.SocketAddr.{SocketAddr}

abbrev pub mapped : Ipv4Addr → ℕ
mapped four = 0xFFFF * 2 ^ 32 + ipv4_bits four

abbrev pub bits_of : IpAddr → ℕ
bits_of (V4 four) = mapped four
bits_of (V6 six) = ipv6_bits six

abbrev pub origin_of_bits : ℕ → ℕ
origin_of_bits bits = if nat_eq (bits / 2 ^ 32) 0xFFFF then bits else bits / 2 ^ 64 * 2 ^ 64

abbrev pub origin_of : SocketAddr → ℕ
origin_of address = origin_of_bits (bits_of (socket_ip address))
